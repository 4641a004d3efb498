-- Valid or refused.
use mathlib.Core.Path.{sym}
use Rattle.format.specs.Decide.{judged}
use Rattle.decide.proofs.Refusals.{stops}
use Rattle.decide.proofs.judged.Goals as goal

pub returns-then-valid : goal.returns-then-valid
unfolding judged
returns-then-valid c = sym (rw c.if-valid.true)

pub returns : goal.returns
unfolding judged
returns c = sym (rw (c.if-valid.false, stops Unit c.refuse.ensures))
