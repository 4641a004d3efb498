-- The row is a reference, and the value ends.
use Rattle.format.specs.Step.{pop}
use Rattle.resume.proofs.Moves.{stopped_by, after_it}
use Rattle.words.proofs.refer.Goals as goal

pub returns-in_err-referred-clause-steps : goal.returns-in_err-referred-clause-steps
returns-in_err-referred-clause-steps c = stopped_by (λ ts y. pop ts) c.in_err-referred.ensures.decided c.from_residual.ensures

pub returns-clause-steps : goal.returns-clause-steps
returns-clause-steps c = after_it (λ ts y. pop ts) c.in_ok-referred.ensures.decided c.pop.ensures.steps
