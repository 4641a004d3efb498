-- Readings of a size, where it is 0 and where it isn't.
use mathlib.Core.Path.{◌≡◌, refl}
use mathlib.Core.List.{List}
use mathlib.Core.Bool.{Bool, true, false, cond}
use Prim.Native.Nat.{ℕ, zero, suc, ◌*◌, ◌/◌, ◌^◌, ◌<◌}
use native.Mathlib.Omega.{arith}
use lib.Dec.{eqb}
use Rattle.rows.specs.declared.Cursor.{Cursor}
use Rattle.rows.specs.declared.Span.{Span}
use Rattle.rows.specs.Memory.{Memory, no_span}
use Rattle.wire.specs.declared.Size.TheVariants.{Old, New}
use Rattle.wire.specs.Word.{bit, size_of}
use Rattle.format.specs.Decide.{Width, four, eight, width_of, give, looking, on_rows, on_strings, reserved, bodied, text_end}
use Rattle.format.specs.Reading.{Reader, ◌>>=◌, ◌>>◌, ret, by, room, text_of, chars_of}
use Rattle.scan.specs.Reads.{result, cleared, reads}

abbrev pub new_room : ℕ → ℕ → Reader Span
new_room row n = do
  s ← by (looking (λ m. reserved n m.store))
  by (on_rows (bodied row s)) >> ret s

abbrev pub new_text : (Span → Reader Unit) → ℕ → Reader Span
new_text at n = do
  s ← by (looking (λ m. reserved n m.store))
  valid ← at s >> chars_of s n
  by (on_strings (text_end s valid))

module _ (m : Memory) (c : Cursor) (s : List ℕ) where
  pub room-none : (row n : ℕ) → n ≡ 0 → result (give no_span tt c) m s ≡ reads (room row n) m c s
  unfolding result cleared reads room
  room-none row n h = rw h

  pub room-some : (row n : ℕ) → (n ≡ 0 → ⊥) → reads (room row n) m c s ≡ reads (new_room row n) m c s
  unfolding room
  room-some row zero h = absurd (h refl)
  room-some row (suc n) h = refl

  pub text-none : (at : Span → Reader Unit) (n : ℕ) → n ≡ 0 → result (give no_span tt c) m s ≡ reads (text_of at (New n)) m c s
  unfolding result cleared reads text_of
  text-none at n h = rw h

  pub text-some : (at : Span → Reader Unit) (n : ℕ) → (n ≡ 0 → ⊥) → reads (text_of at (New n)) m c s ≡ reads (new_text at n) m c s
  unfolding text_of chars_of
  text-some at zero h = absurd (h refl)
  text-some at (suc n) h = refl

-- a size is less than the word that says it
pub size_bound : (w n : ℕ) → w < 2 ^ 29 → New n ≡ size_of w → n < 2 ^ 29
unfolding size_of
size_bound w n h e = halved (eqb (bit 0 w) 0) e
  where
    halved : (b : Bool) → New n ≡ cond b (Old (w / 2)) (New (w / 2)) → n < 2 ^ 29
    halved true e = let z : ◌≡◌ {A = ℕ} 0 1 = cc in absurd (omega arith)
    halved false e = let x : n ≡ w / 2 = cc in omega arith

-- the bytes of a raw body
pub raw-size : (n k : ℕ) (w : Width) → n < 2 ^ 29 → k ≡ width_of w → n * k < 2 ^ 32
raw-size n k four h e = rw e (omega arith)
raw-size n k eight h e = rw e (omega arith)
