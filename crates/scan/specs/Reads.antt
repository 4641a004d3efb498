-- What a reader's function answers, as the definition has it.
use Rattle.std.specs.Prelude.{◌≡◌, Option, Some, None, Result as Answer, Ok, Err, List, [], ◌∷◌, ℕ, ◌+◌, cond, leb, ltb, drop, OnErr}
use Rattle.std.proofs.lemmas.List.Edits.{sets}
use Rattle.std.proofs.Math.Seq.{slice}
use Rattle.rows.specs.declared.Cursor.{Cursor}
use Rattle.rows.specs.declared.Span.{Span}
use Rattle.rows.specs.Memory.{Memory, memory, cursor, zeroed, message_limit}
use Rattle.rows.specs.Lent.{lent_of}
use Rattle.format.specs.declared.Refusal.{Refusal}
use Rattle.decide.specs.Outcomes.{stopped, answer_in}
use Rattle.format.specs.Decide.{Out, stop, give, on_rows, flagged}
use Rattle.format.specs.Reading.{Result, ok, bad, Reader, ◌>>=◌, by, byte}
use Rattle.scan.specs.declared.Reading.{Reading}
use Rattle.format.specs.Refusals as no

-- ---- results

-- an answer, with the memory that it left and the message: a refusal sets every loan to zero in the end
unfoldable pub result : {A : Type 0} → Out Unit A → Memory → List ℕ → Result A
result (stop n told place) m s = bad n told place (zeroed m)
result (give a x c) m s = ok a m c (drop c.at s)

-- a result, but for what a refusal left in the loans
unfoldable pub cleared : {A : Type 0} → Result A → Result A
cleared (ok a m c bs) = ok a m c bs
cleared (bad n told place m) = bad n told place (zeroed m)

-- what a reader makes of the message s, from the cursor's place on
unfoldable pub reads : {A : Type 0} → Reader A → Memory → Cursor → List ℕ → Result A
reads f m c s = cleared (f m c (drop c.at s))

-- the six loans of a reading, as lists of numbers
abbrev pub memory_in : Reading → Memory
memory_in g = memory g.rows.now g.store.now g.strings.now g.objects.now g.traits.now g.names.now

-- whose they are
abbrev pub owners : Reading → List ℕ
owners g = g.rows.ghost_name ∷ g.store.ghost_name ∷ g.strings.ghost_name ∷ g.objects.ghost_name ∷ g.traits.ghost_name ∷ g.names.ghost_name ∷ []

-- loans that are still the same ones, as long as before
abbrev pub SameLoans : Reading → Reading → Type 0
SameLoans g g' = (owners g' ≡ owners g) × (lent_of (memory_in g') ≡ lent_of (memory_in g))

-- the same message and the same loans, which are as long as before
abbrev pub Same : Reading → Reading → Type 0
Same g g' = (g'.message ≡ g.message) × SameLoans g g'

-- a call that answers x, and leaves of the reading g what g' is, is the reader f
pub record Reads {A : Type 0} (x : Answer A Refusal) (g g' : Reading) (f : Reader A) : Type 0 where
  pub read : result (answer_in x g'.cursor) (memory_in g') g.message.now ≡ reads f (memory_in g) g.cursor g.message.now
  pub same : Same g g'

-- a refusal leaves the cursor as it was
abbrev pub Back : {A : Type 0} → Answer A Refusal → Reading → Reading → Type 0
Back x g g' = OnErr x (g'.cursor ≡ g.cursor)

-- the cursor at another place
abbrev pub moved_to : Cursor → ℕ → Cursor
moved_to c at = cursor at c.rows c.store c.strings c.objects c.traits c.names

-- a call that answers x and changes nothing
abbrev pub Looks : {A : Type 0} → Answer A Refusal → Reading → Reader A → Type 0
Looks x g f = Reads x g g f

-- the next bytes stand in a span, and are taken
abbrev pub Copied : Reading → Reading → Span → Type 0
Copied g g' s =
    (memory_in g' ≡ memory g.rows.now (sets g.store.now s.begin (slice g.cursor.at (g.cursor.at + s.size) g.message.now)) g.strings.now
    g.objects.now g.traits.now g.names.now)
    × (g'.cursor ≡ moved_to g.cursor (g.cursor.at + s.size)) × Same g g'

-- where a message of so many bytes ends for a reading at a place
unfoldable pub last_place : ℕ → ℕ → ℕ
last_place len at = cond (leb len at) at (cond (leb message_limit at) at (cond (leb len message_limit) len message_limit))

-- no byte is left: 2 at the message's end, 11 at the limit
unfoldable pub short_at : ℕ → ℕ → Refusal
short_at len at = record { number = cond (ltb (last_place len at) len) no.too_long no.unexpected_end; told = 0; place = last_place len at }

-- a flag byte, by what it means
unfoldable pub flag : (ℕ → ℕ) → ℕ → Reader Unit
flag f row = do
  b ← byte
  by (on_rows (flagged row (f b)))

-- a number that was read, if it lies within the limit
abbrev pub within_of : ℕ → Cursor → Option (ℕ × ℕ) → Answer (ℕ × Cursor) Refusal
within_of len c None = Err (short_at len c.at)
within_of len c (Some (n, next)) = cond (leb next message_limit) (Ok (n, moved_to c next)) (Err (short_at len c.at))
