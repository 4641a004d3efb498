-- The sign rule: what the remainder is, that the number is found back from it, and the ends of the range.
use Rattle.std.proofs.Common.{Some, None}
use mathlib.Core.Path.{◌≡◌, refl, ap, sym, subst, ◌∙◌}
use mathlib.Core.Bool.{cond}
use mathlib.Core.List.{[], ◌∷◌, map}
use Prim.Native.Nat.{ℕ, suc, ◌+◌, ◌*◌, ◌-◌, ◌^◌, ◌/◌, ◌%◌, ◌≤◌, ◌<◌}
use native.Mathlib.Omega.{arith}
use native.Mathlib.Nat.{mod-lt, mod-eq_of_lt, add-mod_right, div-add-mod', suc-mul, mul-add-mod_self_right}
use native.Mathlib.Decide.{dec_lt}
use borrow.Author.Tests.{le-ltb, lt-ltb}
use lib.Dec.{ltb, lit<}
use lib.Pow.{pow-add}
use lib.IntN.{ℤ, pos, negsuc, suc_ℤ, pos-ne-negsuc, ◌+ℤ◌, ◌-ℤ◌, ◌*ℤ◌, +ℤ_assoc, +ℤ_comm, suc_ℤ-*ℤ}
use lib.Signed.{mag}
use Rattle.wire.specs.Sign.{Apart, residue, signed_at, bits_at, integer_of, bits_of, column_of, of_column}

-- ---- what the remainder is

-- r more than so many multiples of m below 0
from-below : (m a r : ℕ) → r < m → negsuc a *ℤ pos m +ℤ pos r ≡ negsuc (a * m + (m - suc r))
from-below m a r l =
    let e : suc a * m ≡ suc (a * m + (m - 1)) = omega (arith, suc-mul a m) in
    rw (e, lt-ltb r (suc (a * m + (m - 1))) (omega arith)) (ap negsuc (omega arith))

-- it is below m, and a multiple of m apart from v
pub residue-is : (m : ℕ) (v : ℤ) → 0 < m → (residue m v < m) × Apart m v (residue m v)
residue-is m (pos n) h = (mod-lt n h, (pos (n / m), ap pos (sym (div-add-mod' n m))))
residue-is m (negsuc n) h =
    let l : n % m < m = mod-lt n h in
    let r : residue m (negsuc n) < m = omega arith in
    (r, (negsuc (n / m), sym (from-below m (n / m) (residue m (negsuc n)) r ∙ ap negsuc (omega (arith, div-add-mod' n m)))))

-- no other number is
pub residue-only : (m r : ℕ) (v : ℤ) → r < m → Apart m v r → r ≡ residue m v
residue-only m r (pos n) l (pos a, e) =
    sym (ap (λ (x : ℕ). x % m) (ap mag e) ∙ mul-add-mod_self_right a m r ∙ mod-eq_of_lt l)
residue-only m r (pos n) l (negsuc a, e) = absurd (pos-ne-negsuc n (a * m + (m - suc r)) (e ∙ from-below m a r l))
residue-only m r (negsuc n) l (pos a, e) = absurd (pos-ne-negsuc (a * m + r) n (sym e))
residue-only m r (negsuc n) l (negsuc a, e) =
    let d : n ≡ a * m + (m - suc r) = ap mag (e ∙ from-below m a r l) in
    let w : n % m ≡ m - suc r = ap (λ (x : ℕ). x % m) d ∙ mul-add-mod_self_right a m (m - suc r) ∙ mod-eq_of_lt (omega arith) in
    omega arith

-- m more leave it as it is
one_more : (m r : ℕ) (v q : ℤ) → v ≡ q *ℤ pos m +ℤ pos r → v +ℤ pos m ≡ suc_ℤ q *ℤ pos m +ℤ pos r
one_more m r v q e =
    ap (λ (z : ℤ). z +ℤ pos m) e ∙ +ℤ_assoc (q *ℤ pos m) (pos r) (pos m) ∙ ap (λ (z : ℤ). q *ℤ pos m +ℤ z) (+ℤ_comm (pos r) (pos m))
    ∙ sym (+ℤ_assoc (q *ℤ pos m) (pos m) (pos r)) ∙ ap (λ (z : ℤ). z +ℤ pos r) (sym (suc_ℤ-*ℤ q (pos m)))

pub residue_turn : (m : ℕ) (v : ℤ) → 0 < m → residue m (v +ℤ pos m) ≡ residue m v
residue_turn m v h =
    let (l, (q, e)) = residue-is m v h in
    sym (residue-only m (residue m v) (v +ℤ pos m) l (suc_ℤ q, one_more m (residue m v) v q e))

-- ---- over the number of bits

double : (h : ℕ) → 2 ^ suc h ≡ 2 ^ h + 2 ^ h
double h = let e : suc h ≡ 1 + h = omega arith in rw e (rw (pow-add 2 1 h) (omega arith))

-- by halves of the range: what the rule gives a number of each sign, and back
pub bits-low : (h n : ℕ) → n < 2 ^ suc h → bits_at h (pos n) ≡ n
bits-low h n l = mod-eq_of_lt l

pub bits-high : (h n : ℕ) → n < 2 ^ suc h → bits_at h (negsuc n) ≡ 2 ^ suc h - suc n
bits-high h n l = ap (λ (x : ℕ). 2 ^ suc h - suc x) (mod-eq_of_lt l)

pub signed_low : (h n : ℕ) → n < 2 ^ h → signed_at h n ≡ pos n
signed_low h n l =
    let e : (n + 2 ^ h) % 2 ^ suc h ≡ n + 2 ^ h = mod-eq_of_lt (omega (arith, double h)) in
    rw (e, le-ltb (n + 2 ^ h) (2 ^ h) (omega arith)) (ap pos (omega arith))

pub signed_high : (h n : ℕ) → 2 ^ h ≤ n → n < 2 ^ suc h → signed_at h n ≡ negsuc (2 ^ suc h - suc n)
signed_high h n l g =
    let a : n + 2 ^ h ≡ (n - 2 ^ h) + 2 ^ suc h = omega (arith, double h) in
    let t : ((n - 2 ^ h) + 2 ^ suc h) % 2 ^ suc h ≡ n - 2 ^ h = add-mod_right (n - 2 ^ h) (2 ^ suc h) ∙ mod-eq_of_lt (omega (arith, double h)) in
    let e : (n + 2 ^ h) % 2 ^ suc h ≡ n - 2 ^ h = ap (λ (x : ℕ). x % 2 ^ suc h) a ∙ t in
    rw (e, lt-ltb (n - 2 ^ h) (2 ^ h) (omega (arith, double h))) (ap negsuc (omega (arith, double h)))

-- each is the other's inverse
pub bits-signed : (h n : ℕ) → n < 2 ^ suc h → bits_at h (signed_at h n) ≡ n
bits-signed h n l =
    elim (dec_lt n (2 ^ h)) [
      | yes a ↦ ap (bits_at h) (signed_low h n a) ∙ bits-low h n l
      | no a ↦ ap (bits_at h) (signed_high h n (omega arith) l) ∙ bits-high h (2 ^ suc h - suc n) (omega arith) ∙ omega arith
    ]

pub signed-bits : (h : ℕ) (v : ℤ) → mag v < 2 ^ h → signed_at h (bits_at h v) ≡ v
signed-bits h (pos n) l = ap (signed_at h) (bits-low h n (omega (arith, double h))) ∙ signed_low h n l
signed-bits h (negsuc n) l =
    ap (signed_at h) (bits-high h n (omega (arith, double h)))
    ∙ signed_high h (2 ^ suc h - suc n) (omega (arith, double h)) (omega (arith, double h)) ∙ ap negsuc (omega (arith, double h))

pub bits_lt : (h : ℕ) (v : ℤ) → mag v < 2 ^ h → bits_at h v < 2 ^ suc h
bits_lt h (pos n) l = rw (bits-low h n (omega (arith, double h))) (omega (arith, double h))
bits_lt h (negsuc n) l = rw (bits-high h n (omega (arith, double h))) (omega (arith, double h))

pub signed_lt : (h n : ℕ) → n < 2 ^ suc h → mag (signed_at h n) < 2 ^ h
signed_lt h n l =
    elim (dec_lt n (2 ^ h)) [
      | yes a ↦ rw (signed_low h n a) a
      | no a ↦ rw (signed_high h n (omega arith) l) (omega (arith, double h))
    ]

-- the number that is found back is in the range, and n is its remainder
pub signed_remainder : (h n : ℕ) → n < 2 ^ suc h → (mag (signed_at h n) < 2 ^ h) × Apart (2 ^ suc h) (signed_at h n) n
signed_remainder h n l =
    let apart = (residue-is (2 ^ suc h) (signed_at h n) (omega arith)).1 in
    (signed_lt h n l, subst (Apart (2 ^ suc h) (signed_at h n)) (bits-signed h n l) apart)

-- ---- on the wire, and in a column

-- a number in the range has bits
pub bits-of : (v : ℤ) → mag v < 2 ^ 28 → bits_of v ≡ Some (bits_at 28 v)
unfolding bits_of
bits-of v l = simp (lt-ltb (mag v) (2 ^ 28) l)

pub bits-outside : (v : ℤ) → 2 ^ 28 ≤ mag v → bits_of v ≡ None
unfolding bits_of
bits-outside v l = simp (le-ltb (mag v) (2 ^ 28) l)

-- what has bits is in the range, and these are its bits
pub has-bits : (v : ℤ) (n : ℕ) → bits_of v ≡ Some n → (mag v < 2 ^ 28) × (n ≡ bits_at 28 v)
has-bits v n e =
    elim (dec_lt (mag v) (2 ^ 28)) [
      | yes a ↦ (let b : bits_of v ≡ Some (bits_at 28 v) = bits-of v a in (a, cc))
      | no a ↦ (let b : bits_of v ≡ None = bits-outside v (omega arith) in let z : ◌≡◌ {A = ℕ} 0 1 = cc in absurd (omega arith))
    ]

pub bits_below : (v : ℤ) (n : ℕ) → bits_of v ≡ Some n → n < 2 ^ 29
bits_below v n e = let h = has-bits v n e in rw h.1 (bits_lt 28 v h.0)

pub integer-bits : (v : ℤ) (n : ℕ) → bits_of v ≡ Some n → integer_of n ≡ v
unfolding integer_of
integer-bits v n e =
    let h = has-bits v n e in
    rw (mod-eq_of_lt (bits_below v n e), h.1) (signed-bits 28 v h.0)

pub bits-integer : (n : ℕ) → bits_of (integer_of n) ≡ Some (n % 2 ^ 29)
unfolding integer_of
bits-integer n =
    let l : n % 2 ^ 29 < 2 ^ 29 = mod-lt n (lit< tt) in
    bits-of (signed_at 28 (n % 2 ^ 29)) (signed_lt 28 (n % 2 ^ 29) l) ∙ ap Some (bits-signed 28 (n % 2 ^ 29) l)

-- an integer that has bits is in the range, and these are its remainder modulo 2 ^ 29
pub bits_remainder : (v : ℤ) (n : ℕ) → bits_of v ≡ Some n → (mag v < 2 ^ 28) × (n < 2 ^ 29) × Apart (2 ^ 29) v n
bits_remainder v n e =
    let h = has-bits v n e in
    let (l, apart) = residue-is (2 ^ 29) v (lit< tt) in
    rw h.1 (h.0, l, apart)

-- what is read from a number is in the range, and the low 29 bits are its remainder
pub integer_remainder : (n : ℕ) → (mag (integer_of n) < 2 ^ 28) × Apart (2 ^ 29) (integer_of n) (n % 2 ^ 29)
unfolding integer_of
integer_remainder n = signed_remainder 28 (n % 2 ^ 29) (mod-lt n (lit< tt))

-- no other number of the range has that remainder
pub remainder_only : (v : ℤ) (n : ℕ) → mag v < 2 ^ 28 → n < 2 ^ 29 → Apart (2 ^ 29) v n → (bits_of v ≡ Some n) × (integer_of n ≡ v)
remainder_only v n l g a =
    let e : bits_of v ≡ Some n = bits-of v l ∙ ap Some (sym (residue-only (2 ^ 29) n v g a)) in
    (e, integer-bits v n e)

-- the same by halves, in document 01's words: n of 2 ^ 28 or more reads as n - 2 ^ 29
pub integer-by_halves : (n : ℕ) → n < 2 ^ 29 → integer_of n ≡ cond (ltb n (2 ^ 28)) (pos n) (pos n -ℤ pos (2 ^ 29))
unfolding integer_of
integer-by_halves n l =
    elim (dec_lt n (2 ^ 28)) [
      | yes a ↦ rw (mod-eq_of_lt l, lt-ltb n (2 ^ 28) a) (signed_low 28 n a)
      | no a ↦ rw (mod-eq_of_lt l, le-ltb n (2 ^ 28) (omega arith), lt-ltb n (2 ^ 29) l) (signed_high 28 n (omega arith) l)
    ]

-- a column's number is of 64 bits, and the column is its remainder modulo 2 ^ 64
pub column_remainder : (x : ℕ) → x < 2 ^ 64 → (mag (of_column x) < 2 ^ 63) × Apart (2 ^ 64) (of_column x) x
unfolding of_column
column_remainder x l = signed_remainder 63 x l

pub of-column : (v : ℤ) → mag v < 2 ^ 63 → of_column (column_of v) ≡ v
unfolding column_of of_column
of-column v l = signed-bits 63 v l

pub column-of : (x : ℕ) → x < 2 ^ 64 → column_of (of_column x) ≡ x
unfolding column_of of_column
column-of x l = bits-signed 63 x l

-- the ends of the range, and -1
pub ends : map integer_of (0x0fff_ffff ∷ 0x1000_0000 ∷ 0x1fff_ffff ∷ []) ≡ (pos (2 ^ 28 - 1) ∷ negsuc (2 ^ 28 - 1) ∷ negsuc 0 ∷ [])
unfolding integer_of
ends = refl
