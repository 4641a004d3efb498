-- The sign rule's steps in an i64, as the code takes them.
use Rattle.std.proofs.Common.{None}
use mathlib.Core.Path.{◌≡◌, refl, ap, sym, ◌∙◌}
use mathlib.Core.Bool.{Bool, true, false}
use Prim.Native.Nat.{ℕ, zero, suc, ◌+◌, ◌-◌, ◌^◌, ◌%◌, ◌≤◌, ◌<◌}
use native.Mathlib.Omega.{arith}
use native.Mathlib.Decide.{dec_lt}
use native.Mathlib.Nat.{mod-lt, min-eq_left, min-eq_right}
use borrow.Author.Tests.{le-ltb, lt-ltb, ltb-true, ltb-false}
use mir.Facts.{to_z-of_z, to_z_pos}
use mir.Syntax.{w64}
use mir.Val.{to_z, of_z, Fits, SFits}
use lib.Dec.{T, lit<}
use lib.IntN.{ℤ, pos, negsuc, neg_ℤ, nat_abs, ◌+ℤ◌, ◌-ℤ◌}
use lib.Signed.{mag, lt_z, non_neg}
use Rattle.wire.specs.Sign.{residue, bits_at, integer_of, bits_of, column_of, of_column}
use Rattle.wire.specs.Date.{bounded}
use Rattle.wire.proofs.Sign.{residue_turn, bits-low, bits-high, signed_low, signed_high, bits-outside, integer_remainder, column_remainder}

-- what the code has of a number z
abbrev pub i64 : ℤ → ℤ
i64 z = to_z w64 (of_z w64 z)

-- a step that gives r
module _ {z r : ℤ} (e : z ≡ r) (l : mag r < 2 ^ 63) where
  pub held : SFits w64 z
  held = rw e (record { sfits = l })

  pub kept : i64 z ≡ r
  kept = to_z-of_z held ∙ e

-- one that gives no negative number can be cast
module _ {z : ℤ} {n : ℕ} (e : z ≡ pos n) (l : n < 2 ^ 63) where
  pub cast : T (non_neg (i64 z)) × Fits w64 (nat_abs (i64 z))
  cast = rw (kept e l) (tt, record { fits = omega arith })

  pub cast_is : nat_abs (i64 z) ≡ n
  cast_is = ap nat_abs (kept e l)

-- by the tests on v
lower : (v : ℤ) (n : ℕ) → lt_z v (negsuc n) ≡ true → suc n ≤ mag v
lower (pos m) n e = let z : ◌≡◌ {A = ℕ} 0 1 = cc in absurd (omega arith)
lower (negsuc m) n e = ltb-true n m e

higher : (v : ℤ) (n : ℕ) → lt_z (pos n) v ≡ true → suc n ≤ mag v
higher (pos m) n e = ltb-true n m e
higher (negsuc m) n e = let z : ◌≡◌ {A = ℕ} 0 1 = cc in absurd (omega arith)

between : (v : ℤ) (n : ℕ) → lt_z v (negsuc n) ≡ false → lt_z (pos n) v ≡ false → mag v ≤ n
between (pos m) n e g = ltb-false n m g
between (negsuc m) n e g = ltb-false n m e

not-below : (v : ℤ) → lt_z v (pos 0) ≡ false → v ≡ pos (mag v)
not-below (pos n) e = refl
not-below (negsuc n) e = let z : ◌≡◌ {A = ℕ} 0 1 = cc in absurd (omega arith)

below : (v : ℤ) → lt_z v (pos 0) ≡ true → v ≡ negsuc (mag v)
below (pos n) e = absurd (omega (arith, ltb-true n 0 e))
below (negsuc n) e = refl

-- -1 - z for a negative z, and for another
from-negative : (n : ℕ) → negsuc 0 -ℤ negsuc n ≡ pos n
from-negative n = simp (le-ltb (suc n) 1 (omega arith)) (ap pos (omega arith))

from-natural : (n : ℕ) → negsuc 0 -ℤ pos n ≡ negsuc n
from-natural zero = refl
from-natural (suc n) = ap negsuc (omega arith)

from_zero : (n : ℕ) → pos 0 -ℤ pos n ≡ neg_ℤ (pos n)
from_zero zero = refl
from_zero (suc n) = let e : suc n - 1 ≡ n = omega arith in simp (lt-ltb 0 (suc n) (omega arith)) (ap negsuc e)

-- 2 ^ 29 is added, whatever the sign: the sum is not negative, and has the same remainder
abbrev pub raised : ℤ → ℕ
raised v = nat_abs (v +ℤ pos (2 ^ 29))

raise : (v : ℤ) → mag v < 2 ^ 28 → (v +ℤ pos (2 ^ 29) ≡ pos (raised v)) × (raised v < 2 ^ 30)
raise (pos n) l = (refl, omega arith)
raise (negsuc n) l = rw (le-ltb (2 ^ 29) (suc n) (omega arith)) (refl, omega arith)

pub raised_lt : (v : ℤ) → mag v < 2 ^ 28 → raised v < 2 ^ 30
raised_lt v l = (raise v l).1

pub raised-bits : (v : ℤ) → mag v < 2 ^ 28 → raised v % 2 ^ 29 ≡ bits_at 28 v
raised-bits v l = ap (residue (2 ^ 29)) (sym (raise v l).0) ∙ residue_turn (2 ^ 29) v (lit< tt)

-- the tests and steps on an i64 v
module _ {v : ℤ} (f : SFits w64 v) where
  pub natural : lt_z (i64 v) (pos 0) ≡ false → v ≡ pos (mag v)
  natural n = not-below v (rw (to_z-of_z f) at n)

  negative : lt_z (i64 v) (pos 0) ≡ true → i64 v ≡ negsuc (mag v)
  negative n = to_z-of_z f ∙ below v (rw (to_z-of_z f) at n)

  pub column-is : of_z w64 (i64 v) ≡ column_of v
  unfolding column_of
  column-is = rw (to_z-of_z f) (by v f.sfits)
    where
      by : (z : ℤ) → mag z < 2 ^ 63 → of_z w64 z ≡ bits_at 63 z
      by (pos n) l = sym (bits-low 63 n (omega arith))
      by (negsuc n) l = sym (bits-high 63 n (omega arith))

  pub in_range : lt_z (i64 v) (negsuc 0x0fff_ffff) ≡ false → lt_z (pos 0x0fff_ffff) (i64 v) ≡ false → mag v < 2 ^ 28
  in_range a b = omega (arith, between v 0x0fff_ffff (rw (to_z-of_z f) at a) (rw (to_z-of_z f) at b))

  pub too_low : lt_z (i64 v) (negsuc 0x0fff_ffff) ≡ true → bits_of v ≡ None
  too_low a = bits-outside v (lower v 0x0fff_ffff (rw (to_z-of_z f) at a))

  pub too_high : lt_z (pos 0x0fff_ffff) (i64 v) ≡ true → bits_of v ≡ None
  too_high a = bits-outside v (higher v 0x0fff_ffff (rw (to_z-of_z f) at a))

  pub raised_is : mag v < 2 ^ 28 → i64 v +ℤ pos (2 ^ 29) ≡ pos (raised v)
  raised_is l = rw (to_z-of_z f) (raise v l).0

-- 2 ^ 28 is added modulo 2 ^ 29, and taken away again
module _ (n : ℕ) where
  abbrev turned : ℕ
  turned = (n % 2 ^ 29 + 2 ^ 28) % 2 ^ 29

  pub turned_lt : turned < 2 ^ 29
  turned_lt = mod-lt (n % 2 ^ 29 + 2 ^ 28) (lit< tt)

  pub integer-fits : mag (integer_of n) < 2 ^ 63
  integer-fits = omega (arith, (integer_remainder n).0)

  pub integer-is : to_z w64 turned -ℤ pos (2 ^ 28) ≡ integer_of n
  unfolding integer_of
  integer-is = rw (to_z_pos w64 {n = turned} (omega (arith, turned_lt)))

module _ (x : ℕ) where
  pub signed-is : x < 2 ^ 64 → to_z w64 x ≡ of_column x
  unfolding of_column
  signed-is g =
      elim (dec_lt x (2 ^ 63)) [
        | yes l ↦ rw (lt-ltb x (2 ^ 63) l) (sym (signed_low 63 x l))
        | no l ↦ rw (le-ltb x (2 ^ 63) (omega arith)) (sym (signed_high 63 x (omega arith) g))
      ]

  pub column_fits : x < 2 ^ 64 → mag (of_column x) < 2 ^ 63
  column_fits l = (column_remainder x l).0

mag-opposite : (n : ℕ) → n < 2 ^ 63 → mag (neg_ℤ (pos n)) < 2 ^ 63
mag-opposite zero l = lit< tt
mag-opposite (suc n) l = omega arith

-- a whole part with its sign: within the range it is cast, and taken from 0 where it is negative; past it an end stands for it
module _ (n : ℕ) where
  pub opposite : n < 2 ^ 63 → to_z w64 0 -ℤ to_z w64 n ≡ neg_ℤ (pos n)
  opposite l = rw (to_z_pos w64 {n = n} l) (from_zero n)

  pub opposite-fits : n < 2 ^ 63 → mag (neg_ℤ (pos n)) < 2 ^ 63
  opposite-fits l = mag-opposite n l

  pub held_below : (s : Bool) → s ≡ true → n < 2 ^ 63 → bounded s n ≡ neg_ℤ (pos n)
  held_below s e l = rw e (ap (λ (k : ℕ). neg_ℤ (pos k)) (min-eq_left {n = n} {m = 2 ^ 63} (omega arith)))

  pub held-above : (s : Bool) → s ≡ false → n < 2 ^ 63 → bounded s n ≡ to_z w64 n
  held-above s e l = rw (e, to_z_pos w64 {n = n} l) (ap pos (min-eq_left {n = n} {m = 2 ^ 63 - 1} (omega arith)))

  pub held_first : (s : Bool) → s ≡ true → 2 ^ 63 ≤ n → bounded s n ≡ negsuc (2 ^ 63 - 1)
  held_first s e l = rw e (ap (λ (k : ℕ). neg_ℤ (pos k)) (min-eq_right l))

  pub held-last : (s : Bool) → s ≡ false → 2 ^ 63 ≤ n → bounded s n ≡ pos (2 ^ 63 - 1)
  held-last s e l = rw e (let k : 2 ^ 63 - 1 ≤ n = omega arith in ap pos (min-eq_right k))
