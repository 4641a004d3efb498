-- The double of 64 bits: whether it is finite, its value in units, and the whole numbers that it is cast to.
use mathlib.Core.Path.{◌≡◌, refl, ap, sym, ◌∙◌}
use mathlib.Core.Bool.{Bool, true, false, not, cond}
use Prim.Native.Nat.{ℕ, zero, suc, ◌+◌, ◌*◌, ◌-◌, ◌^◌, ◌/◌, ◌%◌, ◌<◌, min}
use native.Mathlib.Omega.{arith}
use native.Mathlib.Nat.{mul-div-mul_right, mul_comm}
use borrow.Author.Tests.{lt-leb, ne_eqb}
use lib.Dec.{T, leb, eqb}
use lib.IntN.{ℤ, pos, neg_ℤ}
use lib.Pow.{pow_pos}
use lib.Ieee.{Float, nan, inf, fin, binary64, up, down, is_nan, odd, of_bits, of_fields, to_unsigned, to_signed}
use lib.Ieee.Exact.{HasValue, odd_sign}
use lib.Ieee.Fits.{down_pos}
use Rattle.wire.specs.Date.{finite, bounded}

-- ---- what a value tells of the float that has it

-- it is finite, with that sign, and m * 2 ^ e is a / c
pub by_value : (P : Float → Type 0) (x : Float) (s : Bool) (a c : ℕ) → HasValue x s a c → ((m : ℕ) (e : ℤ) → m * up e * c ≡ a * down e → P (fin s m e)) → P x
by_value P nan s a c v f = absurd v
by_value P (inf t) s a c v f = absurd v
by_value P (fin t m e) s a c v f = rw v.0 (f m e v.1)

pub value-finite : (x : Float) (s : Bool) (a c : ℕ) → HasValue x s a c → finite x ≡ true
unfolding finite
value-finite x s a c v = by_value (λ y. finite y ≡ true) x s a c v (λ m e h. refl)

pub value-not-nan : (x : Float) (s : Bool) (a c : ℕ) → HasValue x s a c → T (not (is_nan x))
unfolding is_nan
value-not-nan x s a c v = by_value (λ y. T (not (is_nan y))) x s a c v (λ m e h. tt)

cross : (p q a c : ℕ) → 0 < q → 0 < c → p * c ≡ a * q → p / q ≡ a / c
cross p q a c hq hc e =
    sym (mul-div-mul_right {m = c} p q hc) ∙ ap (λ (n : ℕ). n / (q * c)) e ∙ ap (λ (n : ℕ). a * q / n) (mul_comm q c) ∙ mul-div-mul_right {m = q} a c hq

-- a cast cuts, and stops at the ends of the range
value-cast : (x : Float) (a c w : ℕ) → HasValue x false a c → 0 < c → to_unsigned w x ≡ min (a / c) (2 ^ w - 1)
unfolding to_unsigned
value-cast x a c w v h =
    by_value (λ y. to_unsigned w y ≡ min (a / c) (2 ^ w - 1)) x false a c v
    (λ m e p. ap (λ (q : ℕ). min q (2 ^ w - 1)) (cross (m * up e) (down e) a c (down_pos e) h p))

value-signed : (x : Float) (s : Bool) (a c h : ℕ) → HasValue x s a c → 0 < c
    → to_signed h x ≡ cond s (neg_ℤ (pos (min (a / c) (2 ^ h)))) (pos (min (a / c) (2 ^ h - 1)))
unfolding to_signed
value-signed x s a c h v g =
    by_value (λ y. to_signed h y ≡ cond s (neg_ℤ (pos (min (a / c) (2 ^ h)))) (pos (min (a / c) (2 ^ h - 1)))) x s a c v
    (λ m e p. ap (λ (q : ℕ). cond s (neg_ℤ (pos (min q (2 ^ h)))) (pos (min q (2 ^ h - 1)))) (cross (m * up e) (down e) a c (down_pos e) g p))

-- ---- by the field x of the exponent and the digits t

finite-top : (p q s : Bool) (v : Float) → finite v ≡ true → finite (cond p (cond q (inf s) nan) v) ≡ not p
unfolding finite
finite-top true true s v h = refl
finite-top true false s v h = refl
finite-top false q s v h = h

finite-fields : (s : Bool) (x t : ℕ) → finite (of_fields binary64 s x t) ≡ not (eqb x 2047)
unfolding of_fields
finite-fields s zero t = value-finite (odd 53 s t 0 1074) s _ _ (odd_sign 53 s t 0 1074)
finite-fields s (suc y) t =
    finite-top (eqb (suc y) 2047) (eqb t 0) s (odd 53 s (2 ^ 52 + t) y 1074) (value-finite (odd 53 s (2 ^ 52 + t) y 1074) s _ _ (odd_sign 53 s (2 ^ 52 + t) y 1074))

-- the value in units of 2 ^ -1074, the smallest that a double has: a field of 0 has no leading digit, and counts as 1
abbrev pub units : ℕ → ℕ → ℕ
units zero t = t
units (suc y) t = (2 ^ 52 + t) * 2 ^ y

value-fields : (s : Bool) (x t : ℕ) → x < 2047 → HasValue (of_fields binary64 s x t) s (units x t) (2 ^ 1074)
unfolding of_fields
value-fields s zero t h = let e : t * 2 ^ 0 ≡ t = omega arith in rw e at (odd_sign 53 s t 0 1074)
value-fields s (suc y) t h = rw (ne_eqb (suc y) 2047 (λ z. omega arith)) (odd_sign 53 s (2 ^ 52 + t) y 1074)

-- ---- by the bits

module _ (b : ℕ) where
  -- the field of the exponent, and the digits
  abbrev pub field : ℕ
  field = b % 2 ^ 63 / 2 ^ 52

  abbrev pub digits : ℕ
  digits = b % 2 ^ 52

  -- the whole part of its size
  abbrev pub whole : ℕ
  whole = units field digits / 2 ^ 1074

  fields : of_bits binary64 b ≡ of_fields binary64 (leb (2 ^ 63) b) field digits
  unfolding of_bits
  fields = refl

  pub bits-finite : finite (of_bits binary64 b) ≡ not (eqb field 2047)
  bits-finite = rw fields (finite-fields (leb (2 ^ 63) b) field digits)

  module _ (l : field < 2047) where
    pub bits-value : HasValue (of_bits binary64 b) (leb (2 ^ 63) b) (units field digits) (2 ^ 1074)
    bits-value = rw fields (value-fields (leb (2 ^ 63) b) field digits l)

    pub bits-cast : b < 2 ^ 63 → to_unsigned 64 (of_bits binary64 b) ≡ min whole (2 ^ 64 - 1)
    bits-cast h =
        let v : HasValue (of_bits binary64 b) false (units field digits) (2 ^ 1074) = rw (lt-leb (2 ^ 63) b h) at bits-value in
        value-cast (of_bits binary64 b) (units field digits) (2 ^ 1074) 64 v (pow_pos 1074)

    pub bits-signed : to_signed 63 (of_bits binary64 b) ≡ bounded (leb (2 ^ 63) b) whole
    bits-signed = value-signed (of_bits binary64 b) (leb (2 ^ 63) b) (units field digits) (2 ^ 1074) 63 bits-value (pow_pos 1074)
