-- The text, and the row that shows it.
use Rattle.format.specs.Reading as r
use Rattle.parts.specs.Heads.{last_body}
use Rattle.scan.proofs.Laws.{then, fails, out-err}
use Rattle.parts.proofs.string_steps.Goals as goal

pub returns-in_err-s-clause-reads : goal.returns-in_err-s-clause-reads
unfolding r.marked
returns-in_err-s-clause-reads c = λ value. out-err c.from_residual.ensures (fails _ _ c.in_err-s.ensures.reads)

pub returns-clause-reads : goal.returns-clause-reads
unfolding r.marked last_body
returns-clause-reads c = λ value. then _ _ c.in_ok-s.ensures.reads c.shown.ensures.reads
