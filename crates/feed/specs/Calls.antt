-- A state that is lent, as numbers, and what its end is.
use Rattle.std.specs.Prelude.{cond, eqb}
use Rattle.format.specs.declared.Head.{Head}
use Rattle.format.specs.Numbers.{Numbers}
use Rattle.format.specs.declared.Refusal.{Refusal}
use Rattle.resume.specs.Steps.{refusal_of}
use Rattle.feed.specs.declared.State as state
use Rattle.format.specs.Codes.{status_waiting}
use Rattle.format.specs.Refusals as refusals
use Rattle.pieces.specs.States.{numbers}

-- at the end: 2 where it waits, 12 where it was never begun
unfoldable pub end_refusal : Head → Refusal
end_refusal h = cond (eqb h.status status_waiting) (refusal_of refusals.unexpected_end 0 h.cursor.at) (refusal_of refusals.lost 0 0)

-- the numbers of a state that is lent
abbrev pub state_numbers : state.State → Numbers
state_numbers s = numbers s.head s.frames
