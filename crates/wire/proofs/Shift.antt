-- Laws on shifts and masks.
use mathlib.Core.Path.{◌≡◌, ap, sym, ◌∙◌}
use Prim.Native.Nat.{ℕ, ◌+◌, ◌*◌, ◌-◌, ◌^◌, ◌/◌, ◌%◌, ◌≤◌, ◌<◌}
use native.Mathlib.Omega.{arith}
use native.Mathlib.Decide.{dec_lt}
use native.Mathlib.Nat.{div-eq_of_lt, mod-lt, one-mul}
use lib.Dec.{lit<}
use lib.Bits.{bit_and, bit_or, and_mask, and_high, or_shifted, or_shifted_r}
use lib.Pow.{pow-add, pow_pos, shl_exact, shr_mod, split}

-- a shift and an or put k low bits below j bits
pub join : (j k w : ℕ) {n b : ℕ} → n < 2 ^ j → b < 2 ^ k → j + k ≤ w → bit_or ((n * 2 ^ k) % 2 ^ w) b ≡ n * 2 ^ k + b
join j k w {n} {b} hn hb hw = rw (shl_exact j k w hn hw) (or_shifted n k b hb)

-- nothing is left of n after a shift by k
pub shifted-out : (n k : ℕ) → n / 2 ^ k ≡ 0 → n < 2 ^ k
shifted-out n k e = omega (arith, split n k, mod-lt n (pow_pos k), ap (λ (q : ℕ). q * 2 ^ k) e)

pub not-shifted-out : (n k : ℕ) → (n / 2 ^ k ≡ 0 → ⊥) → 2 ^ k ≤ n
not-shifted-out n k e = elim (dec_lt n (2 ^ k)) [ yes h ↦ absurd (e (div-eq_of_lt h)) | no h ↦ omega arith ]

-- a test of bit k
pub one_bit : (w k : ℕ) → bit_and w (2 ^ k) ≡ w / 2 ^ k % 2 * 2 ^ k
one_bit w k =
    let e : 2 ^ (1 + k) - 2 ^ k ≡ 2 ^ k = omega (arith, pow-add 2 1 k) in
    ap (bit_and w) (sym e) ∙ and_high w 1 k

-- the high bit of a byte
pub clear : {b : ℕ} → b < 256 → bit_and b 128 ≡ 0 → b < 128
clear {b} hb e = omega (arith, one_bit b 7, shr_mod {n = b} 1 7 hb)

pub set-high : {b : ℕ} → b < 256 → (bit_and b 128 ≡ 0 → ⊥) → 128 ≤ b
set-high {b} hb e = elim (dec_lt b 128) [ yes l ↦ absurd (e (one_bit b 7 ∙ omega arith)) | no g ↦ omega arith ]

pub low7 : {b : ℕ} → b < 256 → 128 ≤ b → bit_and b 127 ≡ b - 128
low7 {b} hb h = and_mask b 7 ∙ omega arith

-- the k low bits, with bit k set
pub with_bit : (k x : ℕ) → bit_or (bit_and x (2 ^ k - 1)) (2 ^ k) ≡ 2 ^ k + x % 2 ^ k
with_bit k x = rw (and_mask x k) (rw one-mul at (or_shifted_r 1 k (x % 2 ^ k) (mod-lt x (pow_pos k))))

-- a mask of k bits in words of w bits, made by a shift
pub one_shifted : (k w : ℕ) → k < w → 1 * 2 ^ k % 2 ^ w ≡ 2 ^ k
one_shifted k w h = shl_exact {a = 1} 1 k w (lit< tt) (omega arith) ∙ omega arith

pub low_bits : (n k w : ℕ) → k < w → bit_and n (1 * 2 ^ k % 2 ^ w - 1) ≡ n % 2 ^ k
low_bits n k w h = ap (λ (x : ℕ). bit_and n (x - 1)) (one_shifted k w h) ∙ and_mask n k
