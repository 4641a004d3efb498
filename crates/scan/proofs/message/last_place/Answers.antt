-- The place by the tests.
use mathlib.Core.Path.{sym}
use Rattle.rows.specs.Memory.{message_limit}
use Rattle.scan.proofs.Ends.{last-after, last-over, last-whole, last-cut}
use Rattle.scan.proofs.message.last_place.Goals as goal
use Rattle.scan.proofs.message.last_place.Goals.{then-len-at-via-then-len-at, then-len-at-via-else-len-at+then-at-ge-MESSAGE_LIMIT}

pub returns-then-len-at : goal.returns-then-len-at
unfolding message_limit
returns-then-len-at c = elim c.then-len-at.branch [
  | then-len-at-via-then-len-at w ↦ sym (last-after _ _ w.if-len-at.true)
  | then-len-at-via-else-len-at+then-at-ge-MESSAGE_LIMIT w ↦ sym (last-over _ _ w.if-len-at.false w.if-at-ge-MESSAGE_LIMIT.true)
]

pub returns-then-len-le-MESSAGE_LIMIT : goal.returns-then-len-le-MESSAGE_LIMIT
unfolding message_limit
returns-then-len-le-MESSAGE_LIMIT c = sym (last-whole _ _ c.if-len-at.false c.if-at-ge-MESSAGE_LIMIT.false c.if-len-le-MESSAGE_LIMIT.true)

pub returns-else-len-le-MESSAGE_LIMIT : goal.returns-else-len-le-MESSAGE_LIMIT
unfolding message_limit
returns-else-len-le-MESSAGE_LIMIT c = sym (last-cut _ _ c.if-len-at.false c.if-at-ge-MESSAGE_LIMIT.false c.if-len-le-MESSAGE_LIMIT.false)
