-- The task of a frame, by its number: how it goes on, and what it has left when its entry is finished.
use mathlib.Core.Path.{◌≡◌, refl, ap, ◌∙◌}
use mathlib.Core.Bool.{Bool, true, false, cond}
use mathlib.Core.List.{List, [], ◌∷◌}
use mathlib.Core.Logic.{inl, inr}
use Prim.Native.Nat.{ℕ, zero, suc, ◌+◌, ◌-◌, ◌/◌, ◌<◌, ◌≤◌}
use native.Mathlib.Omega.{arith}
use native.Mathlib.Numerals.{add-one}
use borrow.Author.Tests.{ne_eqb, leb-true, leb-false, le-leb}
use lib.Dec.{leb, ltb}
use lib.ListN.{length}
use Rattle.rows.specs.declared.Cursor.{Cursor}
use Rattle.rows.specs.declared.Key.{Key}
use Rattle.rows.specs.Memory.{Memory, no_key}
use Rattle.format.specs.declared.Frame.{Frame}
use Rattle.format.specs.Decide.{stop, give, lost, lift, on_rows, looking, closed, counted, sealed_key}
use Rattle.format.specs.Step.{task_of, frame, frame_of, Task, keys_of, strange, assoc, dynamics, State, wait, on, go, entry}
use Rattle.format.specs.Step.{at_marker, at_string, for_key, broken}
use Rattle.wire.specs.Put.{with1}
use Rattle.decide.specs.Outcomes.{leaving}
use types.Run.{OneOf}
use Rattle.std.proofs.Common.{IsTrue, ◌&&◌, ◌⊎◌, tests}
use Rattle.rows.specs.Memory.{row_width, col_count, col_count2}
use Rattle.resume.specs.Steps.{Listed}
use Rattle.format.specs.Refusals as refusals

-- ---- going on, k being what comes when the value is finished

module _ (k : Cursor → Memory → State) (ts : List Frame) (c : Cursor) (m : Memory) (task row left done first y : ℕ) where
  -- entries without a key
  pub no-entries : Listed task → left ≡ 0 → go k ts (task_of (frame task row left done first y)) c m ≡ on (on_rows (closed row) m c) m (λ y. k)
  unfolding go task_of
  no-entries (inl e) z = rw (e, z)
  no-entries (inr (inl e)) z = rw (e, z)
  no-entries (inr (inr e)) z = rw (e, z)

  -- members
  pub no-members : task ≡ 5 → left ≡ 0 → y ≡ 0 → go k ts (task_of (frame task row left done first y)) c m ≡ on (on_rows (closed row) m c) m (λ y. k)
  unfolding go task_of
  no-members t z e = rw (t, z, e)

  -- pairs
  pub go-pairs : task ≡ 1 → go k ts (task_of (frame task row left done first y)) c m ≡ wait (at_string (for_key (assoc row left done))) ts c m
  unfolding go task_of
  go-pairs e = rw e

  pub go-dynamics : task ≡ 2 → go k ts (task_of (frame task row left done first y)) c m ≡ wait (at_string (for_key (dynamics row done))) ts c m
  unfolding go task_of
  go-dynamics e = rw e

  pub go-values : task ≡ 7 → go k ts (task_of (frame task row left done first y)) c m ≡ wait (at_marker no_key) (frame task row left done 0 0 ∷ ts) c m
  unfolding go task_of frame_of
  go-values e = rw e

module _ (k : Cursor → Memory → State) (ts : List Frame) (c : Cursor) (m : Memory) where
  pub more-entries : (task row left done first y : ℕ) → Listed task → (left ≡ 0 → ⊥)
      → go k ts (task_of (frame task row left done first y)) c m ≡ wait (at_marker no_key) (frame task row (left - 1) done 0 0 ∷ ts) c m
  unfolding go task_of frame_of
  more-entries task row zero done first y h z = absurd (z refl)
  more-entries task row (suc n) done first y (inl e) z = let d : suc n - 1 ≡ n = omega arith in rw (e, d)
  more-entries task row (suc n) done first y (inr (inl e)) z = let d : suc n - 1 ≡ n = omega arith in rw (e, d)
  more-entries task row (suc n) done first y (inr (inr e)) z = let d : suc n - 1 ≡ n = omega arith in rw (e, d)

  pub dynamic-members : (task row left done first y : ℕ) → task ≡ 5 → left ≡ 0 → (y ≡ 0 → ⊥)
      → go k ts (task_of (frame task row left done first y)) c m ≡ wait (at_string (for_key (dynamics row 0))) ts c m
  unfolding go task_of
  dynamic-members task row left done first zero t z e = absurd (e refl)
  dynamic-members task row left done first (suc y) t z e = rw (t, z)

  pub more-members : (task row left done first y : ℕ) → task ≡ 5 → (left ≡ 0 → ⊥)
      → go k ts (task_of (frame task row left done first y)) c m
      ≡ on (looking (λ m. sealed_key (first + done) m.names) m c) m (λ key. wait (at_marker key) (frame task row (left - 1) done first y ∷ ts))
  unfolding go task_of frame_of
  more-members task row zero done first y t z = absurd (z refl)
  more-members task row (suc n) done first y t z = let d : suc n - 1 ≡ n = omega arith in rw (t, d)

-- a place in the names that cannot be
no_name : (i : ℕ) (N : List ℕ) (c : Cursor) → leb i c.names ≡ false → sealed_key i N c ≡ lost
unfolding sealed_key
no_name i N c e = rw (le-leb c.names i (let h : c.names < i = leb-false i c.names e in omega arith)) (either (ltb (length N / 2) c.names))
  where
    either : (b : Bool) → cond b (lost {S = Unit} {A = Key}) lost ≡ lost
    either true = refl
    either false = refl

pub astray-members : (k : Cursor → Memory → State) (ts : List Frame) (c : Cursor) (m : Memory) (task row left done first y : ℕ) → task ≡ 5 → (left ≡ 0 → ⊥)
    → leb (first + done) c.names ≡ false → go k ts (task_of (frame task row left done first y)) c m ≡ broken m
astray-members k ts c m task row left done first y t z e =
    more-members k ts c m task row left done first y t z
    ∙ ap (λ o. on (lift (λ u. m) o) m (λ key. wait (at_marker key) (frame task row (left - 1) done first y ∷ ts))) (no_name (first + done) m.names c e)

-- ---- an entry is finished

-- the tasks whose entries are counted in one column, and go on as the same task
module _ (row left done first y : ℕ) (c : Cursor) (m : Memory) (k : Task → Cursor → Memory → State) where
  pub counts-one : (t : ℕ) → OneOf (1 ∷ 4 ∷ 5 ∷ []) t
      → entry (task_of (frame t row left done first y)) c m k
      ≡ on (on_rows (counted row col_count done) m c) m (λ _. k (task_of (frame t row left (done + 1) first y)))
  unfolding entry task_of
  counts-one t (inl e) = rw (e, add-one)
  counts-one t (inr (inl e)) = rw (e, add-one)
  counts-one t (inr (inr e)) = rw (e, add-one)

  -- and those counted in the other column
  pub counts-two : (t : ℕ) → OneOf (2 ∷ 3 ∷ []) t
      → entry (task_of (frame t row left done first y)) c m k
      ≡ on (on_rows (counted row col_count2 done) m c) m (λ _. k (task_of (frame t row left (done + 1) first y)))
  unfolding entry task_of
  counts-two t (inl e) = rw (e, add-one)
  counts-two t (inr e) = rw (e, add-one)

  -- a dictionary's value, after which its next key comes
  pub counts-value : (t : ℕ) → t ≡ 7
      → entry (task_of (frame t row left done first y)) c m k
      ≡ on (on_rows (counted row col_count done) m c) m (λ _. k (task_of (frame 6 row left (done + 1) first y)))
  unfolding entry task_of
  counts-value t e = rw (e, add-one)

-- a dictionary's key, before its value
pub entry_keys : (f : Frame) (c : Cursor) (m : Memory) (k : Task → Cursor → Memory → State) → f.task ≡ 6
    → entry (task_of f) c m k ≡ entry (keys_of f.row f.left f.done) c m k
unfolding task_of
entry_keys f c m k e = rw e

-- no task has such a number
pub strange-task : (f : Frame) → (f.task < 1) ⊎ (7 < f.task) → task_of f ≡ strange
unfolding task_of
strange-task f h =
    rw (ne_eqb f.task 1 (other 1 refl h), ne_eqb f.task 2 (other 2 refl h), ne_eqb f.task 3 (other 3 refl h), ne_eqb f.task 4 (other 4 refl h))
    (rw (ne_eqb f.task 5 (other 5 refl h), ne_eqb f.task 6 (other 6 refl h), ne_eqb f.task 7 (other 7 refl h)))
  where
    other : (n : ℕ) → IsTrue (ltb 0 n && ltb n 8) → (f.task < 1) ⊎ (7 < f.task) → f.task ≡ n → ⊥
    other n h (inl l) e = grind (arith, tests)
    other n h (inr l) e = grind (arith, tests)

pub entry-strange : (t : Task) (c : Cursor) (m : Memory) (k : Task → Cursor → Memory → State) → t ≡ strange → entry t c m k ≡ broken m
unfolding entry
entry-strange t c m k p = rw p

pub go-strange : (t : Task) (ts : List Frame) (c : Cursor) (m : Memory) (k : Cursor → Memory → State) → t ≡ strange → go k ts t c m ≡ broken m
unfolding go
go-strange t ts c m k p = rw p

-- an entry that was counted has a row, which is lent
pub counted-below : (row col done : ℕ) (R R' : List ℕ) (c c' : Cursor) → with1 (give tt tt c') R' ≡ leaving R (counted row col done R c)
    → (done < c.rows) × (c.rows ≤ length R / row_width)
unfolding counted
counted-below row col done R R' c c' e = below (leb c.rows done) (ltb row c.rows) (leb c.rows (length R / row_width)) refl refl refl
  where
    not_lost : with1 (give (tt {0}) (tt {0}) c') R' ≡ with1 (stop refusals.lost 0 0) R → (done < c.rows) × (c.rows ≤ length R / row_width)
    not_lost r = absurd (let z : ◌≡◌ {A = ℕ} 0 1 = cc in omega arith)

    below : (a b d : Bool) → leb c.rows done ≡ a → ltb row c.rows ≡ b → leb c.rows (length R / row_width) ≡ d → (done < c.rows) × (c.rows ≤ length R / row_width)
    below true b d q r s = not_lost (rw q at e)
    below false false d q r s = not_lost (rw (q, r) at e)
    below false true false q r s = not_lost (rw (q, r, s) at e)
    below false true true q r s = (leb-false c.rows done q, leb-true c.rows (length R / row_width) s)
