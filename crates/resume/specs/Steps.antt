-- What a function of a reading that is fed answers, as the definition has it: the next state beside its frames and the loans.
use Rattle.std.specs.Prelude.{◌≡◌, cond, Result, Ok, Err, IsErr, List, [], ◌∷◌, ℕ, eqb, length, Bool, true, false}
use types.Run.{OneOf}
use Rattle.rows.specs.declared.Cursor.{Cursor}
use Rattle.rows.specs.declared.Span.{Span}
use Rattle.rows.specs.Memory.{Memory, memory, zeroed}
use Rattle.rows.specs.Lent.{lent_of}
use Rattle.format.specs.declared.Frame.{Frame}
use Rattle.format.specs.declared.Work.{Work}
use Rattle.format.specs.declared.Refusal.{Refusal}
use Rattle.format.specs.Reading.{finished, refused, refusal}
use Rattle.format.specs.Decide.{Out, stop, give, Decision, four, eight, bodied, grown, on_rows}
use Rattle.format.specs.Step.{Task, task_of, State, wait, over, none, roomy}
use Rattle.format.specs.Numbers.{work_of, laid, frames_of}
use Rattle.format.specs.Codes.{purpose_fours, purpose_eights, purpose_string, task_dense, task_vector, task_keys}
use Rattle.format.specs.Refusals as refusals
use Rattle.resume.specs.declared.Feeding.{Feeding}
use Rattle.resume.specs.declared.Next.{Next}
use Rattle.resume.specs.declared.Next.TheVariants as next

-- it waits, with so many values open; a value that stands in no other is finished; or it is refused
pub data Turn : Type 0 where
  Wait : Work → Cursor → ℕ → Turn
  Finished : Cursor → Turn
  Refused : Refusal → Turn

-- an answer, with the cursor and the number of open values that it left
abbrev pub turn_of : Result Next Refusal → Cursor → ℕ → Turn
turn_of (Ok (next.Wait w)) c depth = Wait w c depth
turn_of (Ok next.Finished) c depth = Finished c
turn_of (Err r) c depth = Refused r

-- an answer, with the frames and the loans that it left
pub data After : Type 0 where
  after : Turn → List ℕ → Memory → After

abbrev pub refusal_of : ℕ → ℕ → ℕ → Refusal
refusal_of number told place = record { number = number; told = told; place = place }

-- a state over the frames that there were; one that was never begun is refused with 12
unfoldable pub after_of : List ℕ → State → After
after_of F (wait x ts c m) = after (Wait (work_of x) c (length ts)) (laid F ts) m
after_of F (over (finished c m)) = after (Finished c) F m
after_of F (over (refused number told place m)) = after (Refused (refusal_of number told place)) F m
after_of F (none m) = after (Refused (refusal_of refusals.lost 0 0)) F (zeroed m)

-- a refusal sets every loan to zero, in one place in the end
unfoldable pub settled : After → After
settled (after (Wait w c depth) F m) = after (Wait w c depth) F m
settled (after (Finished c) F m) = after (Finished c) F m
settled (after (Refused r) F m) = after (Refused r) F (zeroed m)

-- ---- a call that was passed the feeding f, and left f' of it

-- the loans, as lists of numbers
abbrev pub loans_of : Feeding → Memory
loans_of f = memory f.rows.now f.store.now f.strings.now f.objects.now f.traits.now f.names.now

-- whose they and the frames are
abbrev pub owners : Feeding → List ℕ
owners f =
    f.frames.ghost_name ∷ f.rows.ghost_name ∷ f.store.ghost_name ∷ f.strings.ghost_name ∷ f.objects.ghost_name ∷ f.traits.ghost_name ∷ f.names.ghost_name ∷ []

-- the same frames and loans, by their references; the loans are as long as before
abbrev pub Same : Feeding → Feeding → Type 0
Same f f' = (owners f' ≡ owners f) × (lent_of (loans_of f') ≡ lent_of (loans_of f))

-- its answer is the step s
pub record Steps (x : Result Next Refusal) (f f' : Feeding) (s : List Frame → Cursor → Memory → State) : Type 0 where
  pub turn :
      settled (after (turn_of x f'.cursor f'.depth) f'.frames.now (loans_of f'))
      ≡ after_of f.frames.now (s (frames_of f.frames.now f.depth) f.cursor (loans_of f))
  pub same : Same f f'

-- an answer that waits
abbrev pub is_waiting : Result Next Refusal → Bool
is_waiting (Ok (next.Wait w)) = true
is_waiting (Ok next.Finished) = false
is_waiting (Err r) = false

-- a refusal leaves the cursor and the number of open values as they were, and the end of the value in no other leaves that number
abbrev pub Back : Result Next Refusal → Feeding → Feeding → Type 0
Back x f f' = (IsErr x → (f'.cursor ≡ f.cursor) × (f'.depth ≡ f.depth)) × (x ≡ Ok next.Finished → f'.depth ≡ f.depth)

-- the same of one after which as many values are open, unless it waits
pub record Goes (x : Result Next Refusal) (f f' : Feeding) (s : List Frame → Cursor → Memory → State) : Type 0 where
  pub steps : Steps x f f' s
  pub depth : x ≡ Ok next.Finished → f'.depth ≡ f.depth

-- the frames are as they were, and as many are open
pub record Inside (f f' : Feeding) : Type 0 where
  pub frames : f'.frames.now ≡ f.frames.now
  pub depth : f'.depth ≡ f.depth
  pub same : Same f f'

-- what a decision gave, with the loans and the cursor that it left
abbrev pub decided : {A : Type 0} → Result A Refusal → Feeding → Out Memory A
decided (Ok a) f' = give a (loans_of f') f'.cursor
decided (Err r) f' = stop r.number r.told r.place

-- its answer is the decision d; where that refuses, the loans and the cursor are as they were
pub record Decides {A : Type 0} (x : Result A Refusal) (f f' : Feeding) (d : Decision A) : Type 0 where
  pub gave : decided x f' ≡ d (loans_of f) f.cursor
  pub refused : (r : Refusal) → x ≡ Err r → (loans_of f' ≡ loans_of f) × (f'.cursor ≡ f.cursor)
  pub inside : Inside f f'

-- a task's value is finished
abbrev pub ended : Cursor → Memory → State
ended c m = over (finished c m)

-- what comes after a call that gives something, or refuses
abbrev pub given : {A : Type 0} → Result A Refusal → Feeding → (A → Cursor → Memory → State) → State
given (Ok a) f' k = k a f'.cursor (loans_of f')
given (Err r) f' k = over (refusal r.number r.told r.place (loans_of f'))

-- its answer is what e goes on with, as `via` reads it
pub record Gives {A B : Type 0} (via : A → B) (x : Result A Refusal) (f f' : Feeding) (e : Cursor → Memory → (B → Cursor → Memory → State) → State) : Type 0 where
  pub gave : (k : B → Cursor → Memory → State) → given x f' (λ a. k (via a)) ≡ e f.cursor (loans_of f) k
  pub inside : Inside f f'

-- what a task has left
abbrev pub Enters : Result Frame Refusal → Feeding → Feeding → (Cursor → Memory → (Task → Cursor → Memory → State) → State) → Type 0
Enters = Gives task_of

-- room for a body of n bytes
abbrev pub Rooms : Result Span Refusal → Feeding → Feeding → ℕ → ℕ → Type 0
Rooms x f f' row n = Gives (λ p. p) x f f' (roomy row n)

-- ---- tasks

-- the tasks whose entries have no key: items of an array, of a vector, keys of a dictionary
abbrev pub Listed : ℕ → Type 0
Listed task = OneOf (task_dense ∷ task_vector ∷ task_keys ∷ []) task

-- ---- decisions by purpose

-- a string value's row shows its span at once
abbrev pub reserved_by : Work → Span → Decision Unit
reserved_by w p = cond (eqb w.purpose purpose_string) (on_rows (bodied w.row p)) (λ m c. give tt m c)

-- a raw vector's count follows its bytes
abbrev pub grown_by : Work → Decision Unit
grown_by w =
    cond (eqb w.purpose purpose_fours) (on_rows (grown w.row four w.span w.left))
    (cond (eqb w.purpose purpose_eights) (on_rows (grown w.row eight w.span w.left)) (λ m c. give tt m c))
