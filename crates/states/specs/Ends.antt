-- A state that has ended, by its head.
use Rattle.std.specs.Prelude.{Bool, false, cond, ◌&&◌, ◌||◌, eqb}
use Rattle.format.specs.Codes.{status_waiting, status_finished, status_refused}
use Rattle.format.specs.declared.Head.{Head}
use Rattle.format.specs.Numbers.{finishable}
use Rattle.format.specs.Refusals as no

-- finished, or refused, as a reading can be
unfoldable pub has_ended : Head → Bool
has_ended h =
    cond (eqb h.status status_waiting) false
    ((eqb h.status status_finished && finishable h.cursor) || (eqb h.status status_refused && no.sayable h.number h.told h.place))
