-- The task of the members.
use Rattle.format.specs.Step.{task_of}
use Rattle.resume.proofs.Feeding.members_of.Goals as goal

pub returns-clause-steps : goal.returns-clause-steps
unfolding task_of
returns-clause-steps c = c.onward.ensures.steps
