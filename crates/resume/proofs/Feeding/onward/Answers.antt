-- The task, and where it finishes its value those around.
use Rattle.resume.proofs.Turns.{goes_on, goes_out, goes_after}
use Rattle.resume.proofs.Feeding.onward.Goals as goal

pub returns-in_err-w-clause-steps : goal.returns-in_err-w-clause-steps
returns-in_err-w-clause-steps c = goes_out _ c.in_err-w.ensures.goes c.from_residual.ensures

pub returns-in-Wait-clause-steps : goal.returns-in-Wait-clause-steps
returns-in-Wait-clause-steps c = goes_on _ (rw c.in-Wait.is at c.in_ok-w.ensures.goes)

pub returns-in-Finished-clause-steps : goal.returns-in-Finished-clause-steps
returns-in-Finished-clause-steps c = goes_after _ (rw c.in-Finished.is at c.in_ok-w.ensures.goes) c.pop.ensures.steps
