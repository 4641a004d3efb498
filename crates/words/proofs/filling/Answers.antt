-- No bytes, or some.
use Rattle.std.proofs.Common.{◌≡◌, rules}
use Rattle.format.specs.Numbers.{no_work}
use Rattle.resume.proofs.Moves.{as_is, waits}
use Rattle.words.proofs.Bodies.{no_bytes, more_bytes, raw_work}
use Rattle.words.proofs.filling.Goals as goal

pub returns-then-n-eq0-clause-steps : goal.returns-then-n-eq0-clause-steps
returns-then-n-eq0-clause-steps c = as_is (λ ts c' m. no_bytes _ _ _ _ _ _ _ c.requires.bytes c.if-n-eq0.true) c.close.ensures.steps

pub returns-clause-steps : goal.returns-clause-steps
returns-clause-steps c = as_is (λ ts c' m. more_bytes _ _ _ _ _ _ _ c.requires.bytes c.if-n-eq0.false) (waits (let e : c.default.result ≡ no_work = search rules in rw e (raw_work _ _ _ _ c.requires.bytes)))
