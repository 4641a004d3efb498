-- The row shows the span, and ends.
use Rattle.format.specs.Decide.{on_rows, closed}
use Rattle.format.specs.Step.{had, ends}
use Rattle.resume.proofs.Moves.{stopped_by, after_it}
use Rattle.resume.proofs.Feeding.string_there.Goals as goal

pub returns-in_err-bodied-clause-steps : goal.returns-in_err-bodied-clause-steps
unfolding had
returns-in_err-bodied-clause-steps c = stopped_by (λ ts y. ends ts (on_rows (closed c.args.row))) c.in_err-bodied.ensures.decided c.from_residual.ensures

pub returns-clause-steps : goal.returns-clause-steps
unfolding had
returns-clause-steps c = after_it (λ ts y. ends ts (on_rows (closed c.args.row))) c.in_ok-bodied.ensures.decided c.close.ensures.steps
