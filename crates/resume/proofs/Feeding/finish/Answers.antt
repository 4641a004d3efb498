-- The row's end decides.
use Rattle.resume.specs.Steps.{ended}
use Rattle.resume.proofs.Moves.{finishes, stopping}
use Rattle.resume.proofs.Feeding.finish.Goals as goal

pub returns-in_err-closed-clause-goes : goal.returns-in_err-closed-clause-goes
returns-in_err-closed-clause-goes c = stopping (λ ts y. ended) c.in_err-closed.ensures.decided c.from_residual.ensures

pub returns-clause-goes : goal.returns-clause-goes
returns-clause-goes c = finishes c.in_ok-closed.ensures.decided
