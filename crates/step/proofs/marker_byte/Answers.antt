-- The answer of `marking`, and what a refusal puts back.
use Rattle.resume.proofs.Moves.{puts_back}
use Rattle.step.proofs.marker_byte.Goals as goal

pub returns-clause-steps : goal.returns-clause-steps
returns-clause-steps c = puts_back _ _ c.put_back.ensures.answer c.put_back.ensures.back c.marking-a.ensures.steps
