-- The answer of `text_ending`, and what a refusal puts back.
use Rattle.resume.proofs.Moves.{puts_back}
use Rattle.resume.proofs.Feeding.text_done.Goals as goal

pub returns-clause-steps : goal.returns-clause-steps
returns-clause-steps c = puts_back _ _ c.put_back.ensures.answer c.put_back.ensures.back c.text_ending-a.ensures.steps
