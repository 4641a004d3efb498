-- No bytes, or some.
use Rattle.std.proofs.Common.{rules}
use Rattle.format.specs.Numbers.{work_of}
use Rattle.resume.proofs.Moves.{as_is, waits}
use Rattle.words.proofs.Bodies.{no_text, more-text}
use Rattle.words.proofs.texting.Goals as goal

pub returns-then-n-eq0-clause-steps : goal.returns-then-n-eq0-clause-steps
returns-then-n-eq0-clause-steps c = as_is (λ ts c' m. no_text _ _ _ _ _ _ c.if-n-eq0.true) c.close.ensures.steps

pub returns-clause-steps : goal.returns-clause-steps
unfolding work_of
returns-clause-steps c = as_is (λ ts c' m. more-text _ _ _ _ _ _ c.if-n-eq0.false) (waits (search rules))
