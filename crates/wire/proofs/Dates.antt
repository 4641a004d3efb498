-- Dates: which bits are refused, the milliseconds of the others, and where they are as the crate has them.
use Rattle.std.proofs.Common.{Some, None}
use mathlib.Core.Path.{◌≡◌, refl, ap, sym, subst, ◌∙◌}
use mathlib.Core.Bool.{Bool, true, false, cond, not, ◌&&◌}
use Prim.Native.Nat.{ℕ, zero, suc, ◌+◌, ◌*◌, ◌-◌, ◌^◌, ◌/◌, ◌%◌, ◌≤◌, ◌<◌, min}
use native.Mathlib.Omega.{arith}
use native.Mathlib.Nat.{lt_of_lt_of_le, min-eq_left, min-eq_right, div-eq_of_lt, mod-lt, mod-eq_of_lt, mul_assoc, mul-le-mul}
use native.Mathlib.Decide.{dec_lt}
use borrow.Author.Tests.{le-leb, lt-leb, leb-false, le-ltb, lt-ltb, eq-eqb, ne_eqb}
use lib.Dec.{T, eqb, leb, ltb, le→leb, leb→le, lt→ltb, lit<}
use lib.Pow.{pow-add, pow_mono, shl_lt, shl_exact, shl-shr, shr-shr, shr_le}
use lib.IntN.{ℤ, pos, neg_ℤ}
use lib.Ieee.{Float, nan, inf, fin, binary64, up, down, fits, whole as is_whole, in_float, in_unsigned, of_int, of_bits, to_bits, to_unsigned, to_signed}
use lib.Ieee.Exact.{HasValue}
use lib.Ieee.Back.{positive_back, Float-back_unsigned, round_whole}
use lib.Ieee.Bits.{of_bits-to_bits, to_bits-of_bits, of_bits-fits}
use lib.Ieee.Fits.{of_int-fits, and_i, and_l, and_r}
use Rattle.wire.specs.Date.{finite, refused_date, moment_of, bounded}
use Rattle.wire.proofs.Cast.{by_value, value-finite, value-not-nan, field, digits, whole, bits-finite, bits-value, bits-cast, bits-signed, units}

-- ---- which bits are refused

-- without their sign they are the largest
pub refused-is : (b : ℕ) → refused_date b ≡ leb (2047 * 2 ^ 52) (b % 2 ^ 63)
unfolding refused_date
refused-is b =
    let l : b % 2 ^ 63 < 2 ^ 63 = mod-lt b (lit< tt) in
    rw (bits-finite b)
    (elim (dec_lt (b % 2 ^ 63) (2047 * 2 ^ 52)) [
      | yes g ↦ rw (ne_eqb (b % 2 ^ 63 / 2 ^ 52) 2047 (λ e. omega arith), lt-leb (2047 * 2 ^ 52) (b % 2 ^ 63) g)
      | no g ↦ rw (eq-eqb (b % 2 ^ 63 / 2 ^ 52) 2047 (omega arith), le-leb (2047 * 2 ^ 52) (b % 2 ^ 63) (omega arith))
    ])

pub date-is : (b : ℕ) → ltb (b % 2 ^ 63) (2047 * 2 ^ 52) ≡ not (refused_date b)
date-is b =
    elim (dec_lt (b % 2 ^ 63) (2047 * 2 ^ 52)) [
      | yes g ↦ rw (refused-is b, lt-ltb (b % 2 ^ 63) (2047 * 2 ^ 52) g, lt-leb (2047 * 2 ^ 52) (b % 2 ^ 63) g)
      | no g ↦ rw (refused-is b, le-ltb (b % 2 ^ 63) (2047 * 2 ^ 52) (omega arith), le-leb (2047 * 2 ^ 52) (b % 2 ^ 63) (omega arith))
    ]

-- the sign doesn't matter
pub refused-size : (b : ℕ) → refused_date (b % 2 ^ 63) ≡ refused_date b
refused-size b = let e : b % 2 ^ 63 % 2 ^ 63 ≡ b % 2 ^ 63 = mod-eq_of_lt (mod-lt b (lit< tt)) in rw (refused-is b, refused-is (b % 2 ^ 63), e)

pub no-moment : (b : ℕ) → refused_date b ≡ true → moment_of b ≡ None
unfolding moment_of
no-moment b h = rw h

pub moment-at : (b : ℕ) → refused_date b ≡ false → moment_of b ≡ Some (to_signed 63 (of_bits binary64 b))
unfolding moment_of
moment-at b h = rw h

-- the field of the exponent isn't all ones
pub not_ones : (b : ℕ) → refused_date b ≡ false → b % 2 ^ 63 / 2 ^ 52 < 2047
not_ones b h = let l : b % 2 ^ 63 < 2047 * 2 ^ 52 = leb-false (2047 * 2 ^ 52) (b % 2 ^ 63) (sym (refused-is b) ∙ h) in omega arith

-- ---- the milliseconds, by the field of the exponent

units-up : (x t : ℕ) → 0 < x → units x t ≡ (2 ^ 52 + t) * 2 ^ (x - 1)
units-up zero t h = absurd (omega arith)
units-up (suc y) t h = let e : suc y - 1 ≡ y = omega arith in rw e

units_lt : (x t : ℕ) → t < 2 ^ 52 → units x t < 2 ^ (53 + (x - 1))
units_lt zero t h = omega arith
units_lt (suc y) t h = let e : suc y - 1 ≡ y = omega arith in rw e (shl_lt {a = 2 ^ 52 + t} 53 y (omega arith))

module _ (b : ℕ) (s : b < 2 ^ 63) (p : refused_date b ≡ false) where
  abbrev E : ℕ
  E = b / 2 ^ 52

  abbrev t : ℕ
  t = b % 2 ^ 52

  abbrev M : ℕ
  M = 2 ^ 52 + t

  abbrev value : ℕ
  value = to_unsigned 64 (of_bits binary64 b)

  in_digits : t < 2 ^ 52
  in_digits = mod-lt b (lit< tt)

  unsigned : b % 2 ^ 63 ≡ b
  unsigned = mod-eq_of_lt s

  by_units : {n : ℕ} → units E t / 2 ^ 1074 ≡ n → value ≡ min n (2 ^ 64 - 1)
  by_units e = bits-cast b (not_ones b p) s ∙ ap (λ (x : ℕ). min x (2 ^ 64 - 1)) (ap (λ (x : ℕ). units (x / 2 ^ 52) t / 2 ^ 1074) unsigned ∙ e)

  pub below : E < 1023 → 0 ≡ value
  below h = sym (by_units (div-eq_of_lt (lt_of_lt_of_le (units_lt E t in_digits) (pow_mono {i = 53 + (E - 1)} {j = 1074} (omega arith)))))

  pub middle : 1023 ≤ E → E ≤ 1075 → M / 2 ^ (1075 - E) ≡ value
  middle h g =
      let n : 1074 ≡ (E - 1) + (1075 - E) = omega arith in
      let e : 2 ^ 1074 ≡ 2 ^ ((E - 1) + (1075 - E)) = ap (λ (k : ℕ). 2 ^ k) n in
      let q : units E t / 2 ^ 1074 ≡ M / 2 ^ (1075 - E) =
      ap (λ (x : ℕ). x / 2 ^ 1074) (units-up E t (omega arith)) ∙ ap (λ (x : ℕ). M * 2 ^ (E - 1) / x) e
      ∙ sym (shr-shr (M * 2 ^ (E - 1)) (E - 1) (1075 - E)) ∙ ap (λ (x : ℕ). x / 2 ^ (1075 - E)) (shl-shr M (E - 1)) in
      sym (by_units q ∙ min-eq_left (omega (arith, shr_le M (1075 - E), in_digits)))

  above : 1075 < E → units E t / 2 ^ 1074 ≡ M * 2 ^ (E - 1075)
  above h =
      let e : 2 ^ (E - 1) ≡ 2 ^ (E - 1075) * 2 ^ 1074 = ap (λ (k : ℕ). 2 ^ k) (omega arith) ∙ pow-add 2 (E - 1075) 1074 in
      ap (λ (x : ℕ). x / 2 ^ 1074) (units-up E t (omega arith) ∙ ap (λ (x : ℕ). M * x) e ∙ sym (mul_assoc M (2 ^ (E - 1075)) (2 ^ 1074)))
      ∙ shl-shr (M * 2 ^ (E - 1075)) 1074

  pub upper : 1075 < E → E ≤ 1086 → M * 2 ^ (E - 1075) % 2 ^ 64 ≡ value
  upper h g =
      let m : M < 2 ^ 53 = omega (arith, in_digits) in
      let l : M * 2 ^ (E - 1075) < 2 ^ 64 = lt_of_lt_of_le (shl_lt {a = M} 53 (E - 1075) m) (pow_mono {i = 53 + (E - 1075)} {j = 64} (omega arith)) in
      shl_exact {a = M} 53 (E - 1075) 64 m (omega arith) ∙ sym (by_units (above h) ∙ min-eq_left (omega arith))

  pub held : 1086 < E → 2 ^ 64 - 1 ≡ value
  held h =
      let l : 2 ^ 52 * 2 ^ 12 ≤ M * 2 ^ (E - 1075) = mul-le-mul {n₁ = 2 ^ 52} {m₁ = 2 ^ 12} {n₂ = M} {m₂ = 2 ^ (E - 1075)} (omega arith) (pow_mono {i = 12} {j = E - 1075} (omega arith)) in
      sym (by_units (above (omega arith)) ∙ min-eq_right (omega arith))

-- ---- milliseconds

min-twice : (n a b : ℕ) → b ≤ a → min (min n a) b ≡ min n b
min-twice n a b l =
    elim (dec_lt n a) [
      | yes h ↦ ap (λ (k : ℕ). min k b) (min-eq_left (omega arith))
      | no h ↦ ap (λ (k : ℕ). min k b) (min-eq_right (omega arith)) ∙ min-eq_right l ∙ sym (min-eq_right (omega arith))
    ]

held_cut : (s : Bool) (n : ℕ) → bounded s (min n (2 ^ 64 - 1)) ≡ bounded s n
held_cut true n = ap (λ (k : ℕ). neg_ℤ (pos k)) (min-twice n (2 ^ 64 - 1) (2 ^ 63) (omega arith))
held_cut false n = ap pos (min-twice n (2 ^ 64 - 1) (2 ^ 63 - 1) (omega arith))

-- the whole part of the size, then the sign
pub signed_is : (b : ℕ) → refused_date b ≡ false → to_signed 63 (of_bits binary64 b) ≡ bounded (leb (2 ^ 63) b) (to_unsigned 64 (of_bits binary64 (b % 2 ^ 63)))
signed_is b p =
    let l : b % 2 ^ 63 < 2 ^ 63 = mod-lt b (lit< tt) in
    let e : b % 2 ^ 63 % 2 ^ 63 ≡ b % 2 ^ 63 = mod-eq_of_lt l in
    let d : b % 2 ^ 63 % 2 ^ 52 ≡ b % 2 ^ 52 = omega arith in
    let w : to_unsigned 64 (of_bits binary64 (b % 2 ^ 63)) ≡ min (whole b) (2 ^ 64 - 1) =
    bits-cast (b % 2 ^ 63) (not_ones (b % 2 ^ 63) (refused-size b ∙ p)) l
    ∙ ap (λ (x : ℕ). min (units (x / 2 ^ 52) (b % 2 ^ 63 % 2 ^ 52) / 2 ^ 1074) (2 ^ 64 - 1)) e
    ∙ ap (λ (x : ℕ). min (units (b % 2 ^ 63 / 2 ^ 52) x / 2 ^ 1074) (2 ^ 64 - 1)) d in
    bits-signed b (not_ones b p) ∙ sym (ap (bounded (leb (2 ^ 63) b)) w ∙ held_cut (leb (2 ^ 63) b) (whole b))

-- by the fields of the bits alone: the exponent's, and the digits below the leading one
module _ (b : ℕ) where
  pub refused_ones : refused_date b ≡ eqb (b % 2 ^ 63 / 2 ^ 52) 2047
  unfolding refused_date
  refused_ones = rw (bits-finite b) (not-not (eqb (b % 2 ^ 63 / 2 ^ 52) 2047))
    where
      not-not : (t : Bool) → not (not t) ≡ t
      not-not true = refl
      not-not false = refl

  by-fields : b % 2 ^ 63 / 2 ^ 52 < 2047 → {n : ℕ} → whole b ≡ n → moment_of b ≡ Some (bounded (leb (2 ^ 63) b) n)
  by-fields l e =
      moment-at b (refused_ones ∙ ne_eqb (b % 2 ^ 63 / 2 ^ 52) 2047 (λ q. omega arith)) ∙ ap Some (bits-signed b l ∙ ap (bounded (leb (2 ^ 63) b)) e)

  pub moment-by-fields : 0 < b % 2 ^ 63 / 2 ^ 52 → b % 2 ^ 63 / 2 ^ 52 < 2047
      → moment_of b ≡ Some (bounded (leb (2 ^ 63) b) ((2 ^ 52 + b % 2 ^ 52) * 2 ^ (b % 2 ^ 63 / 2 ^ 52 - 1) / 2 ^ 1074))
  moment-by-fields h l = by-fields l (ap (λ (n : ℕ). n / 2 ^ 1074) (units-up (b % 2 ^ 63 / 2 ^ 52) (b % 2 ^ 52) h))

  -- no leading digit: less than one
  pub moment-below-one : b % 2 ^ 63 / 2 ^ 52 ≡ 0 → moment_of b ≡ Some (pos 0)
  moment-below-one e =
      by-fields (omega arith) none ∙ ap Some (zero (leb (2 ^ 63) b))
    where
      none : whole b ≡ 0
      none = ap (λ (x : ℕ). units x (b % 2 ^ 52) / 2 ^ 1074) e ∙ div-eq_of_lt (lt_of_lt_of_le (mod-lt b (lit< tt)) (pow_mono {i = 52} {j = 1074} (omega arith)))

      zero : (s : Bool) → bounded s 0 ≡ pos 0
      zero true = refl
      zero false = refl

-- in a double's own words
module _ (b m : ℕ) (e : ℤ) where
  pub moment_positive : of_bits binary64 b ≡ fin false m e → moment_of b ≡ Some (pos (min (m * up e / down e) (2 ^ 63 - 1)))
  unfolding moment_of refused_date finite to_signed
  moment_positive h = rw h

  pub moment-negative : of_bits binary64 b ≡ fin true m e → moment_of b ≡ Some (neg_ℤ (pos (min (m * up e / down e) (2 ^ 63))))
  unfolding moment_of refused_date finite to_signed
  moment-negative h = rw h

-- where there are none
pub none-refused : (b : ℕ) → moment_of b ≡ None → refused_date b ≡ true
unfolding moment_of
none-refused b e = by (refused_date b) e
  where
    by : (t : Bool) → cond t None (Some (to_signed 63 (of_bits binary64 b))) ≡ None → t ≡ true
    by true h = refl
    by false h = let z : ◌≡◌ {A = ℕ} 0 1 = cc in absurd (omega arith)

-- ---- as the crate has it, which counts from 0 up

-- below 2 ^ 63 the milliseconds are those that it reads
pub reads-as_crate : (b : ℕ) → b < 2 ^ 63 → refused_date b ≡ false → to_unsigned 64 (of_bits binary64 b) < 2 ^ 63
    → moment_of b ≡ Some (pos (to_unsigned 64 (of_bits binary64 b)))
reads-as_crate b l p h =
    let e : b % 2 ^ 63 ≡ b = mod-eq_of_lt l in
    moment-at b p ∙ ap Some (signed_is b p ∙ rw (lt-leb (2 ^ 63) b l, e) (ap pos (min-eq_left (omega arith))))

-- the bits that it writes for whole milliseconds up to 2 ^ 53 read as these
module _ (ms : ℕ) (h : ms ≤ 2 ^ 53) where
  abbrev double : Float
  double = of_int binary64 (pos ms)

  in-float : T (in_float binary64 (pos ms))
  unfolding in_float
  in-float = le→leb ms (2 ^ 53) h

  value_of : HasValue double false ms 1
  unfolding of_int
  value_of = round_whole binary64 false ms h

  read_back : of_bits binary64 (to_bits binary64 double) ≡ double
  read_back = of_bits-to_bits binary64 double (of_int-fits binary64 (pos ms))

  pub date-round : moment_of (to_bits binary64 double) ≡ Some (pos ms)
  unfolding refused_date
  date-round =
      moment-at (to_bits binary64 double) (rw (read_back, value-finite double false ms 1 value_of))
      ∙ ap Some (ap (to_signed 63) read_back ∙ (positive_back binary64 63 ms in-float (omega arith)).1)

-- a date that is whole, up to 2 ^ 53 and has no sign is written with its own bits
whole-finite : (x : Float) → T (is_whole binary64 x) → finite x ≡ true
unfolding is_whole finite
whole-finite nan w = absurd w
whole-finite (inf s) w = absurd w
whole-finite (fin s m e) w = refl

whole_back : (x : Float) (a c : ℕ) → HasValue x false a c → T (fits binary64 x) → T (is_whole binary64 x) → of_int binary64 (pos (to_unsigned 64 x)) ≡ x
unfolding is_whole in_unsigned
whole_back x a c v =
    by_value (λ y. T (fits binary64 y) → T (is_whole binary64 y) → of_int binary64 (pos (to_unsigned 64 y)) ≡ y) x false a c v
    (λ m e h f w.
    let n = m * up e / down e in
    let small : Bool = eqb (m * up e % down e) 0 && leb n (2 ^ 53) in
    let l : n ≤ 2 ^ 53 = leb→le n (2 ^ 53) (and_r (eqb (m * up e % down e) 0) (leb n (2 ^ 53)) (and_l small true w)) in
    (Float-back_unsigned binary64 64 (fin false m e) f (and_i (small && true) (ltb n (2 ^ 64)) w (lt→ltb n (2 ^ 64) (omega arith)))).1)

module _ (b : ℕ) (l : b < 2 ^ 63) (w : T (is_whole binary64 (of_bits binary64 b))) where
  date : refused_date b ≡ false
  unfolding refused_date
  date = ap not (whole-finite (of_bits binary64 b) w)

  value_in_units : HasValue (of_bits binary64 b) false (units (field b) (digits b)) (2 ^ 1074)
  value_in_units = subst (λ s. HasValue (of_bits binary64 b) s (units (field b) (digits b)) (2 ^ 1074)) (lt-leb (2 ^ 63) b l) (bits-value b (not_ones b date))

  pub writes-as_crate : to_bits binary64 (of_int binary64 (pos (to_unsigned 64 (of_bits binary64 b)))) ≡ b
  writes-as_crate =
      ap (to_bits binary64) (whole_back (of_bits binary64 b) _ _ value_in_units (of_bits-fits binary64 b) w)
      ∙ to_bits-of_bits binary64 b (omega arith) (value-not-nan (of_bits binary64 b) false _ _ value_in_units)
