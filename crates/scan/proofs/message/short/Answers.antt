-- The number by the place.
use Rattle.scan.proofs.Ends.{short-long, short-end}
use Rattle.scan.proofs.message.short.Goals as goal

pub returns-then-place-len : goal.returns-then-place-len
returns-then-place-len c = short-long _ _ c.last_place-place.ensures c.if-place-len.true

pub returns-else-place-len : goal.returns-else-place-len
returns-else-place-len c = short-end _ _ c.last_place-place.ensures c.if-place-len.false
