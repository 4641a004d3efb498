-- The row's end decides, and then those around.
use Rattle.format.specs.Step.{pop}
use Rattle.resume.proofs.Moves.{stopped_by, after_it}
use Rattle.resume.proofs.Feeding.close.Goals as goal

pub returns-in_err-closed-clause-steps : goal.returns-in_err-closed-clause-steps
returns-in_err-closed-clause-steps c = stopped_by (λ ts y. pop ts) c.in_err-closed.ensures.decided c.from_residual.ensures

pub returns-clause-steps : goal.returns-clause-steps
returns-clause-steps c = after_it (λ ts y. pop ts) c.in_ok-closed.ensures.decided c.pop.ensures.steps
