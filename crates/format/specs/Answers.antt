-- The public calls: for each, the answer and all that it leaves. The number, told value and place of a refusal stand in the answer as document 01 has them.
use Rattle.std.specs.Prelude.{Option, Result, Ok, Err, cond, ◌||◌, List, [], ◌∷◌, ℕ, ℤ, ◌+◌, eqb, replicate}
use Rattle.rows.specs.Memory.{Memory, fresh}
use Rattle.format.specs.Refusals as no
use Rattle.format.specs.declared.Answer.{Answer}
use Rattle.format.specs.declared.Answer.TheVariants.{Waiting, Finished, Refused}
use Rattle.format.specs.declared.Refusal.{Refusal}
use Rattle.rows.specs.declared.lent.Lent.{Lent}
use Rattle.format.specs.Reading.{Ended, finished, refused, reading}
use Rattle.format.specs.Step as step
use Rattle.format.specs.Step.{State, wait, over, none}
use Rattle.format.specs.Numbers.{Numbers, Held, held, head, no_work, frames_size, lent_of, state_of, after_step, byte_step}
use Rattle.format.specs.Text.{text_or, moment_at}
use Rattle.format.specs.Writing.{Wrote, written, unwritten, writing}

-- ---- begin, feed and end

-- an answer, with the state and the loans after it
pub data Fed : Type 0 where
  fed : Answer → Numbers → Memory → Fed

-- what a state answers, so many bytes taken
abbrev pub answer_of : State → ℕ → Answer
answer_of (wait x ts c m) n = Waiting n
answer_of (over (finished c m)) n = Finished c.rows c.store n
answer_of (over (refused number told place m)) n = Refused number told place n
answer_of (none m) n = Refused no.lost 0 0 n

abbrev pub answered : Held → ℕ → Fed
answered (held s m) n = fed (answer_of (state_of s m) n) s m

-- a state of which nothing is known but the loans' lengths
abbrev pub blank : Lent → Numbers
blank lent = record { head = head 0 0 0 0 lent fresh 0 no_work; frames = replicate frames_size 0 }

-- begin sets every number of the state
unfoldable pub begin_call : Memory → Fed
begin_call m = answered (after_step (blank (lent_of m)) (step.begin m)) 0

-- a piece, byte by byte
unfoldable pub run_held : Held → List ℕ → Held
run_held h [] = h
run_held h (b ∷ bs) = run_held (byte_step b h) bs

-- the byte that made a state was taken, but for 11 and 12
abbrev pub cost : State → ℕ
cost (wait x ts c m) = 1
cost (over (finished c m)) = 1
cost (over (refused number told place m)) = cond (eqb number no.too_long || eqb number no.lost) 0 1
cost (none m) = 0

-- a state that doesn't wait takes nothing
abbrev pub cost_from : State → State → ℕ
cost_from (wait x ts c m) after = cost after
cost_from (over e) after = 0
cost_from (none m) after = 0

abbrev pub state_in : Held → State
state_in (held s m) = state_of s m

unfoldable pub taken_by : Held → List ℕ → ℕ
taken_by h [] = 0
taken_by h (b ∷ bs) = cost_from (state_in h) (state_in (byte_step b h)) + taken_by (byte_step b h) bs

unfoldable pub feed_call : Numbers → Memory → List ℕ → Fed
feed_call s m piece = answered (run_held (held s m) piece) (taken_by (held s m) piece)

-- the end changes nothing of what has ended
abbrev pub end_of : Numbers → Memory → State → Fed
end_of s m (over e) = answered (held s m) 0
end_of s m (wait x ts c m') = answered (after_step s (over (step.end (wait x ts c m')))) 0
end_of s m (none m') = answered (after_step s (over (step.end (none m')))) 0

unfoldable pub end_call : Numbers → Memory → Fed
end_call s m = end_of s m (state_of s m)

-- ---- read, write, text and milliseconds

pub data Read : Type 0 where
  read : Answer → Memory → Read

abbrev pub read_of : Ended → Read
read_of (finished c m) = read (Finished c.rows c.store c.at) m
read_of (refused number told place m) = read (Refused number told place 0) m

unfoldable pub read_call : Memory → List ℕ → Read
read_call m message = read_of (reading m message)

abbrev pub refusal_of : ℕ → ℕ → ℕ → Refusal
refusal_of number told place = record { number = number; told = told; place = place }

-- an answer, so many bytes or a refusal, with the output after it
pub data Output : Type 0 where
  output : Result ℕ Refusal → List ℕ → Output

abbrev pub written_of : Wrote → Output
written_of (written n out) = output (Ok n) out
written_of (unwritten number told place out) = output (Err (refusal_of number told place)) out

unfoldable pub write_call : List ℕ → List ℕ → List ℕ → Output
write_call rows store out = written_of (writing rows store out)

-- a part of the store or of the default
abbrev pub text_call : List ℕ → List ℕ → ℕ → List ℕ → List ℕ
text_call = text_or

-- a row's milliseconds
abbrev pub millis_call : List ℕ → List ℕ → ℕ → Option ℤ
millis_call = moment_at
