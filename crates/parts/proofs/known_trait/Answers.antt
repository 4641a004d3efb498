-- The trait, and the class that its row shows.
use Rattle.parts.specs.Heads.{known_trait}
use Rattle.scan.proofs.Laws.{then, fails, given, out-err}
use Rattle.parts.proofs.known_trait.Goals as goal

pub returns-in_err-t-clause-reads : goal.returns-in_err-t-clause-reads
unfolding known_trait
returns-in_err-t-clause-reads c = out-err c.from_residual.ensures (fails _ _ c.in_err-t.ensures)

pub returns-in_err-object_class-clause-reads : goal.returns-in_err-object_class-clause-reads
unfolding known_trait
returns-in_err-object_class-clause-reads c = out-err c.from_residual-in_err-object_class.ensures (then _ _ c.in_ok-t.ensures (fails _ _ c.in_err-object_class.ensures.reads))

pub returns-clause-reads : goal.returns-clause-reads
unfolding known_trait
returns-clause-reads c = then _ _ c.in_ok-t.ensures (then _ _ c.in_ok-object_class.ensures.reads given)
