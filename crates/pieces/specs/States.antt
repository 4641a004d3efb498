-- A head and its frames as the numbers of a state, and what a byte makes of them.
use Rattle.std.specs.Prelude.{◌≡◌, true, cond, ◌||◌, Result, List, ℕ, suc, ◌+◌, ◌-◌, ◌≤◌, ◌<◌, eqb, drop, length}
use Rattle.std.proofs.lemmas.List.Edits.{sets}
use Rattle.rows.specs.declared.Cursor.{Cursor}
use Rattle.rows.specs.declared.lent.Lent.{Lent}
use Rattle.rows.specs.Memory.{Memory, memory, cursor, fresh, message_limit, row_used}
use Rattle.utf8.specs.States.{fold_of}
use Rattle.format.specs.declared.Head.{Head}
use Rattle.format.specs.declared.Refusal.{Refusal}
use Rattle.format.specs.declared.Work.{Work}
use Rattle.format.specs.Decide.{Out, stop, give, four, eight, grown}
use Rattle.format.specs.Step.{State, wait, broken}
use Rattle.format.specs.Numbers.{Numbers, Held, held, head, no_work, work, mode_of, work_of, frames_of, lent_of, sound, sound_step, pairs_fit}
use Rattle.format.specs.Answers.{run_held, taken_by}
use Rattle.format.specs.Codes.{mode_text, status_waiting, status_finished, status_refused, purpose_fours, purpose_eights}
use Rattle.format.specs.Refusals as refusals
use Rattle.states.specs.Purposes.{IsRaw}
use Rattle.resume.specs.declared.Feeding.{Feeding}
use Rattle.resume.specs.declared.Next.{Next}
use Rattle.resume.specs.Steps.{Turn, Wait, Finished, Refused, After, after, after_of, settled, loans_of, turn_of, Same}

abbrev pub numbers : Head → List ℕ → Numbers
numbers h F = record { head = h; frames = F }

-- what a byte makes of a state that has not ended
unfoldable pub state_after : ℕ → Head → List ℕ → Memory → State
state_after b h F m =
    cond (eqb h.status status_waiting) (sound_step h.lent b (wait (mode_of h.work) (frames_of F h.depth) h.cursor m)) (broken m)

-- a call's answer is what byte b makes of the state of these numbers, which has not ended
pub record Takes (x : Result Next Refusal) (f f' : Feeding) (b : ℕ) (h : Head) : Type 0 where
  pub turn :
      settled (after (turn_of x f'.cursor f'.depth) f'.frames.now (loans_of f'))
      ≡ after_of f.frames.now (state_after b h f.frames.now (loans_of f))
  pub same : Same f f'

-- the head of an answer
abbrev pub head_of : Lent → Turn → Head
head_of l (Wait w c depth) = head status_waiting 0 0 0 l c depth w
head_of l (Finished c) = head status_finished 0 0 0 l c 0 no_work
head_of l (Refused r) = head status_refused r.number r.told r.place l fresh 0 no_work

abbrev pub held_of : Lent → After → Held
held_of l (after a F m) = held (numbers (head_of l a) F) m

-- ---- a piece

-- the byte that made an answer was taken, but for 11 and 12
abbrev pub cost_of : Turn → ℕ
cost_of (Wait w c depth) = 1
cost_of (Finished c) = 1
cost_of (Refused r) = cond (eqb r.number refusals.too_long || eqb r.number refusals.lost) 0 1

-- what is held after a piece, and the bytes taken from it
pub data Fold : Type 0 where
  ran : Held → ℕ → Fold

abbrev pub run_of : Held → List ℕ → Fold
run_of h piece = ran (run_held h piece) (taken_by h piece)

-- the same of a piece's bytes behind its first, which is taken
abbrev pub run_past : Held → List ℕ → Fold
run_past h piece = ran (run_held h (drop 1 piece)) (suc (taken_by h (drop 1 piece)))

-- the numbers of a state that waits
abbrev pub waiting : Lent → Work → Cursor → ℕ → List ℕ → Numbers
waiting l w c depth F = numbers (head_of l (Wait w c depth)) F

-- a call's answer, and the bytes taken, are those of a piece behind its first, for a state that waits with this work
pub record Drives (x : Result Next Refusal × ℕ) (f f' : Feeding) (w : Work) (piece : List ℕ) : Type 0 where
  pub ran_past :
      ran (held_of (lent_of (loans_of f)) (settled (after (turn_of x.0 f'.cursor f'.depth) f'.frames.now (loans_of f')))) x.1
      ≡ run_past (held (waiting (lent_of (loans_of f)) w f.cursor f.depth f.frames.now) (loans_of f)) piece
  pub same : Same f f'

-- they are those of a piece, for the state of these numbers
pub record RunsAll (x : Result Next Refusal × ℕ) (f f' : Feeding) (h : Head) (piece : List ℕ) : Type 0 where
  pub ran_all :
      ran (held_of h.lent (settled (after (turn_of x.0 f'.cursor f'.depth) f'.frames.now (loans_of f')))) x.1 ≡ run_of (held (numbers h f.frames.now) (loans_of f)) piece
  pub same : Same f f'

-- a sound state that waits, with no number in its work but those of its mode
abbrev pub Ready : Work → Cursor → ℕ → List ℕ → Memory → Type 0
Ready w c depth F m = (sound (lent_of m) (mode_of w) (frames_of F depth) c m ≡ true) × (work_of (mode_of w) ≡ w)

-- one that may have more pairs done than rows are used: the next byte finds that
abbrev pub Nearly : Work → Cursor → ℕ → List ℕ → Memory → Type 0
Nearly w c depth F m = (sound (lent_of m) (mode_of w) (frames_of F depth) c m ≡ pairs_fit c (mode_of w)) × (work_of (mode_of w) ≡ w)

-- k of n bytes are none of them the last of a text or a raw body, nor past the limit
abbrev pub Bulk : Work → Cursor → ℕ → ℕ → Type 0
Bulk w c n k = (4 < w.mode) × (k ≤ w.left) × (k ≤ n) × (c.at + k ≤ message_limit)

-- the work after k bytes of a text or a raw body, none of them the last
abbrev pub work_past : Work → ℕ → List ℕ → Work
work_past w k bs =
    work w.mode w.purpose w.row (w.left - k) (cond (eqb w.mode mode_text) (fold_of w.part bs) w.part) w.span w.kind w.count w.done

-- the rows after a decision: a refusal leaves them as they were
abbrev pub rows_after : List ℕ → Out (List ℕ) Unit → List ℕ
rows_after R (stop number told place) = R
rows_after R (give a R' c) = R'

-- a raw vector's count follows its bytes
abbrev pub count_by : Work → List ℕ → Cursor → Out (List ℕ) Unit
count_by w R c =
    cond (eqb w.purpose purpose_fours) (grown w.row four w.span w.left R c)
    (cond (eqb w.purpose purpose_eights) (grown w.row eight w.span w.left R c) (give tt R c))

-- the rows after k bytes of a text or a raw body: a vector's count is that of the last of them
abbrev pub rows_past : Work → Cursor → ℕ → List ℕ → List ℕ
rows_past w c k R =
    cond (eqb w.mode mode_text) R
    (rows_after R (count_by (work w.mode w.purpose w.row (w.left - k + 1) w.part w.span w.kind w.count w.done) R c))

-- the cursor at another place
abbrev pub further : Cursor → ℕ → Cursor
further c n = cursor n c.rows c.store c.strings c.objects c.traits c.names

-- k bytes can be filled in: they lie in the span, none of them is the last, and a vector's row is used
pub record Fillable (f : Feeding) (w : Work) (k : ℕ) : Type 0 where
  pub span : w.span.begin + w.span.size ≤ length f.store.now
  pub left : w.left < w.span.size
  pub some : 0 < k
  pub most : k ≤ w.left
  pub place : f.cursor.at + k ≤ message_limit
  pub raw : (w.mode ≡ mode_text → ⊥) → IsRaw w.purpose × (row_used f.rows.now f.cursor w.row ≡ true)

-- they are: they stand in the store, a vector's count is that of the last, and the cursor is past them
pub record Filled (f f' : Feeding) (w : Work) (bs : List ℕ) : Type 0 where
  pub loans :
      loans_of f'
      ≡ memory (rows_past w f.cursor (length bs) f.rows.now) (sets f.store.now (w.span.begin + (w.span.size - (w.left + 1))) bs) f.strings.now f.objects.now
      f.traits.now f.names.now
  pub cursor : f'.cursor ≡ further f.cursor (f.cursor.at + length bs)
  pub depth : f'.depth ≡ f.depth
  pub frames : f'.frames.now ≡ f.frames.now
  pub same : Same f f'
