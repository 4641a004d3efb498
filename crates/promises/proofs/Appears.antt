-- A row appears at its marker, with the marker's kind and its key, on any waiting state whose head holds together.
use mathlib.Core.Path.{◌≡◌, refl, ◌∙◌}
use mathlib.Core.Logic.{◌≢◌}
use mathlib.Core.List.{List, [], ◌∷◌}
use Prim.Native.Nat.{ℕ, zero, suc, ◌+◌, ◌*◌, ◌-◌, ◌/◌, ◌≤◌, ◌<◌}
use native.Mathlib.Omega.{arith}
use borrow.Author.Tests.{le-ltb, lt-leb, ne_eqb}
use lib.ListN.{length, get_or, replicate}
use lib.Seq.{sets, length-sets}
use Rattle.rows.specs.declared.Cursor.{Cursor}
use Rattle.rows.specs.declared.Key.{Key}
use Rattle.rows.specs.Memory.{Memory, memory, message_limit, open_limit, row_width, rows_in, col, col_body_begin}
use Rattle.format.specs.declared.Answer.TheVariants.{Waiting}
use Rattle.format.specs.declared.Frame.{Frame}
use Rattle.format.specs.Reading.{taken}
use Rattle.format.specs.Decide.{new_row, marker, kind_of, Kind, leaf, integer, double, string, object, sized, rows_to}
use Rattle.format.specs.Step.{Mode, at_marker, wait, begun, shown, act, step}
use Rattle.format.specs.Numbers.{Numbers, held, state_of, numbers_of, mode_of, work_of, frames_of, laid, sound_step, after_step, byte_step}
use Rattle.format.specs.Answers.{fed, run_held, taken_by, feed_call}
use Rattle.format.specs.Claims.{RowNew}
use Rattle.format.specs.Together.{Together}
use Rattle.format.proofs.Lists.{sets-at}
use Rattle.meaning.proofs.Ground.{col-lent}
use Rattle.format.proofs.Tests.{clash}
use Rattle.promises.proofs.Precedence.{in_loans}
use Rattle.promises.proofs.Together.{together-sound}

-- ---- what is next

-- after a marker that isn't a leaf's the reading waits
begun-waits : (ts : List Frame) (row : ℕ) (k : Kind) (c : Cursor) (m : Memory) → k ≢ leaf → (x : Mode) × (begun ts row k c m ≡ wait x ts c m)
unfolding begun
begun-waits ts row leaf c m n = absurd (n refl)
begun-waits ts row integer c m n = (_, refl)
begun-waits ts row double c m n = (_, refl)
begun-waits ts row string c m n = (_, refl)
begun-waits ts row object c m n = (_, refl)
begun-waits ts row (sized body) c m n = (_, refl)

-- and those from the integer's to the dictionary's aren't
not-leaf : (j : ℕ) → j ≤ 13 → kind_of (suc (suc (suc (suc j)))) ≢ leaf
unfolding kind_of
not-leaf zero h e = clash cc
not-leaf (suc zero) h e = clash cc
not-leaf (suc (suc zero)) h e = clash cc
not-leaf (suc (suc (suc zero))) h e = clash cc
not-leaf (suc (suc (suc (suc zero)))) h e = clash cc
not-leaf (suc (suc (suc (suc (suc zero))))) h e = clash cc
not-leaf (suc (suc (suc (suc (suc (suc zero)))))) h e = clash cc
not-leaf (suc (suc (suc (suc (suc (suc (suc zero))))))) h e = clash cc
not-leaf (suc (suc (suc (suc (suc (suc (suc (suc zero)))))))) h e = clash cc
not-leaf (suc (suc (suc (suc (suc (suc (suc (suc (suc zero))))))))) h e = clash cc
not-leaf (suc (suc (suc (suc (suc (suc (suc (suc (suc (suc zero)))))))))) h e = clash cc
not-leaf (suc (suc (suc (suc (suc (suc (suc (suc (suc (suc (suc zero))))))))))) h e = clash cc
not-leaf (suc (suc (suc (suc (suc (suc (suc (suc (suc (suc (suc (suc zero)))))))))))) h e = clash cc
not-leaf (suc (suc (suc (suc (suc (suc (suc (suc (suc (suc (suc (suc (suc zero))))))))))))) h e = clash cc
not-leaf (suc (suc (suc (suc (suc (suc (suc (suc (suc (suc (suc (suc (suc (suc j)))))))))))))) h e = absurd (omega arith)

marks : (b : ℕ) → 0x04 ≤ b → b ≤ 0x11 → kind_of b ≢ leaf
marks b l h e = let q : b ≡ suc (suc (suc (suc (b - 4)))) = omega arith in not-leaf (b - 4) (omega arith) (rw (← q) e)

-- ---- its numbers

-- a row that is set where it has room
set-row : (R vs : List ℕ) (i j : ℕ) → length vs ≡ row_width → i < rows_in R → j < row_width → col (sets R (i * row_width) vs) i j ≡ get_or vs j 0
set-row R vs i j w l h =
    let n = length-sets R (i * row_width) vs in
    col-lent (sets R (i * row_width) vs) i j (omega arith) ∙ sets-at vs R (i * row_width) j (omega arith) (omega arith)

-- a row that isn't a leaf's
new-row : (b : ℕ) (k : Key) (i : ℕ) → 0x04 ≤ b → new_row b k i ≡ b ∷ k.mark ∷ k.begin ∷ k.size ∷ replicate (row_width - col_body_begin) 0
unfolding new_row
new-row b k i l = rw (le-ltb b 3 (omega arith), ne_eqb b 3 (λ e. omega arith), le-ltb b 4 l)

zeros-at : (n j : ℕ) → ◌≡◌ {A = ℕ} (get_or (replicate n 0) j 0) 0
zeros-at zero j = refl
zeros-at (suc n) zero = refl
zeros-at (suc n) (suc j) = zeros-at n j

rest-zero : (b : ℕ) (k : Key) (j : ℕ) → col_body_begin ≤ j → get_or (b ∷ k.mark ∷ k.begin ∷ k.size ∷ replicate (row_width - col_body_begin) 0) j 0 ≡ 0
rest-zero b k zero l = absurd (omega arith)
rest-zero b k (suc zero) l = absurd (omega arith)
rest-zero b k (suc (suc zero)) l = absurd (omega arith)
rest-zero b k (suc (suc (suc zero))) l = absurd (omega arith)
rest-zero b k (suc (suc (suc (suc j)))) l = zeros-at (row_width - col_body_begin) j

row_new : (R : List ℕ) (i b : ℕ) (k : Key) → 0x04 ≤ b → i < rows_in R → RowNew (sets R (i * row_width) (new_row b k i)) i b k
row_new R i b k l h =
    record {
      shows = at 0 (omega arith);
      mark = at 1 (omega arith);
      begin = at 2 (omega arith);
      size = at 3 (omega arith);
      rest = λ j f g. at j g ∙ rest-zero b k j f;
    }
  where
    at : (j : ℕ) → j < row_width
        → col (sets R (i * row_width) (new_row b k i)) i j ≡ get_or (b ∷ k.mark ∷ k.begin ∷ k.size ∷ replicate (row_width - col_body_begin) 0) j 0
    at j g = rw (new-row b k i l) (set-row R (b ∷ k.mark ∷ k.begin ∷ k.size ∷ replicate (row_width - col_body_begin) 0) i j refl h g)

-- ---- through the call

-- numbers of a state that waits wait
state-waits : (n : Numbers) (y : Mode) (us : List Frame) (d : Cursor) (k : Memory)
    → state_of (numbers_of n (wait y us d k)) k ≡ wait (mode_of (work_of y)) (frames_of (laid n.frames us) (length us)) d k
unfolding state_of numbers_of
state-waits n y us d k = refl

module _ (n : Numbers) (m : Memory) (b : ℕ) (x : Mode) (ts : List Frame) (c : Cursor) (w : state_of n m ≡ wait x ts c m) (h : Together n.head.lent x ts c m)
    (l : c.at < message_limit) (y : Mode) (us : List Frame) (d : Cursor) (k : Memory) (e : act x b ts (taken c) m ≡ wait y us d k) where
  step_waits : step b (wait x ts c m) ≡ wait y us d k
  unfolding step
  step_waits = rw (lt-leb message_limit c.at l) e

  byte-waits : byte_step b (held n m) ≡ held (numbers_of n (wait y us d k)) k
  unfolding byte_step sound_step after_step
  byte-waits = rw (w, together-sound n.head.lent x ts c m h, step_waits)

  -- a byte after which a state that holds together waits is taken
  feed-waits : feed_call n m (b ∷ []) ≡ fed (Waiting 1) (numbers_of n (wait y us d k)) k
  unfolding feed_call run_held taken_by
  feed-waits = rw (byte-waits, w, state-waits n y us d k)

module _ (n : Numbers) (m : Memory) (b : ℕ) (k : Key) (ts : List Frame) (c : Cursor) (w : state_of n m ≡ wait (at_marker k) ts c m)
    (h : Together n.head.lent (at_marker k) ts c m) (l : c.at < message_limit) (lo : 0x04 ≤ b) (hi : b ≤ 0x11) (f : length ts < open_limit) (r : c.rows < rows_in m.rows) where
  -- the rows with the new one
  abbrev with_row : Memory
  with_row = memory (sets m.rows (c.rows * row_width) (new_row b (shown k) c.rows)) m.store m.strings m.objects m.traits m.names

  act-marker : act (at_marker k) b ts (taken c) m ≡ begun ts c.rows (kind_of b) (rows_to (taken c) (c.rows + 1)) with_row
  unfolding act marker
  act-marker =
      let z : open_limit - length ts ≡ 0 → ⊥ = λ e. omega arith in
      rw ((in_loans h).0, le-ltb 0x11 b hi, ne_eqb (open_limit - length ts) 0 z, lt-leb (length m.rows / row_width) c.rows r)

  -- a row appears at its marker, and the reading waits
  pub marker-row : (n' : Numbers) × (m' : Memory) × (feed_call n m (b ∷ []) ≡ fed (Waiting 1) n' m') × RowNew m'.rows c.rows b (shown k)
  marker-row =
      let (x, q) = begun-waits ts c.rows (kind_of b) (rows_to (taken c) (c.rows + 1)) with_row (marks b lo hi) in
      let e = feed-waits n m b (at_marker k) ts c w h l x ts (rows_to (taken c) (c.rows + 1)) with_row (act-marker ∙ q) in
      (_, _, e, row_new m.rows c.rows b (shown k) lo r)
