-- The class, and the rest.
use Rattle.rows.specs.declared.Cursor.{Cursor}
use Rattle.format.specs.Decide.{trait_of}
use Rattle.parts.specs.Heads.{new_trait, inline_trait}
use Rattle.scan.proofs.Laws.{then, fails, from-cursor, chosen, out-err}
use Rattle.parts.proofs.new_trait.Goals as goal

pub returns-in_err-s-clause-reads : goal.returns-in_err-s-clause-reads
unfolding new_trait
returns-in_err-s-clause-reads c = out-err c.from_residual.ensures (fails _ _ c.in_err-s.ensures.reads)

pub returns-clause-reads : goal.returns-clause-reads
unfolding new_trait
returns-clause-reads c = then _ _ c.in_ok-s.ensures.reads (from-cursor (λ (x : Cursor). inline_trait c.args.row (trait_of c.in_ok-s.s c.args.n c.args.dynamic x)) (chosen (inline_trait _) c.trait_of-t.ensures c.inline_trait.ensures.reads))
