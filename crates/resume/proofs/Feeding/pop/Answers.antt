-- The answer of `popping`, and what a refusal puts back.
use Rattle.resume.proofs.Moves.{reopens}
use Rattle.resume.proofs.Feeding.pop.Goals as goal

pub returns-clause-steps : goal.returns-clause-steps
returns-clause-steps c = reopens _ c.reopened.ensures.answer c.reopened.ensures.back c.popping-a.ensures.steps
