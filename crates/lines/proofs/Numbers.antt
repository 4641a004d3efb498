-- The number at a place, digit by digit in 64 bits.
use Rattle.std.proofs.Common.{◌≡◌, ℕ, ◌+◌, ◌*◌, ◌%◌, ◌^◌, ◌<◌, Some, None, List, [], ◌∷◌, length, sym, ap, ◌∙◌, mod-lt, mod-eq_of_lt, arith, pow_pos}
use lib.Bits.{bit_or}
use Rattle.lines.specs.Lines.{digit_at, digits_at, behind_of, value_of, number_of, number_at}
use Rattle.lines.proofs.Digits.{digits_more, digits-end, digit_at-least, shifted}

-- the low bits of a number come from the low bits of what stands before the last digits
pub value_low : (ds : List ℕ) (n : ℕ) → value_of (n % 2 ^ 64) ds % 2 ^ 64 ≡ value_of n ds % 2 ^ 64
unfolding value_of
value_low [] n = omega arith
value_low (d ∷ ds) n =
    let e : (n % 2 ^ 64 * 16 + d) % 2 ^ 64 ≡ (n * 16 + d) % 2 ^ 64 = omega arith in
    sym (value_low ds (n % 2 ^ 64 * 16 + d)) ∙ ap (λ (x : ℕ). value_of x ds % 2 ^ 64) e ∙ value_low ds (n * 16 + d)

-- the digits from `at` to p gave n, and those from p on give the rest
pub record Counted (line : List ℕ) (at n p : ℕ) : Type 0 where
  pub low : n < 2 ^ 64
  pub place : at + length (digits_at line at) ≡ p + length (digits_at line p)
  pub value : value_of 0 (digits_at line at) % 2 ^ 64 ≡ value_of n (digits_at line p) % 2 ^ 64

pub number_more : {line : List ℕ} {at n p d : ℕ} → Counted line at n p → Some d ≡ digit_at line p
    → Counted line at (bit_or (n * 2 ^ 4 % 2 ^ 64) d) (p + 1)
unfolding value_of
number_more {line} {at} {n} {p} {d} c i =
    let e : digits_at line p ≡ d ∷ digits_at line (p + 1) = digits_more line p i in
    rw (shifted 60 n d (digit_at-least line p i)) record {
      low = mod-lt (n * 16 + d) (pow_pos 64);
      place = omega (arith, c.place, ap length e);
      value =
          c.value ∙ ap (λ (ds : List ℕ). value_of n ds % 2 ^ 64) e ∙ sym (value_low (digits_at line (p + 1)) (n * 16 + d));
    }

pub number-missing : (line : List ℕ) (at p : ℕ) → None ≡ digit_at line p → p ≡ at → None ≡ number_at line at
unfolding number_at number_of
number-missing line at p i q = let f : digits_at line at ≡ [] = rw (← q) (digits-end line p i) in rw f

some : (ds : List ℕ) (n end : ℕ) → 0 < length ds → n ≡ value_of 0 ds % 2 ^ 64 → Some (n, end) ≡ number_of ds end
unfolding number_of
some [] n end h e = absurd (omega arith)
some (d ∷ ds) n end h e = ap (λ (x : ℕ). Some (x, end)) e

pub number-whole : {line : List ℕ} {at n p end : ℕ} → Counted line at n p → None ≡ digit_at line p → (p ≡ at → ⊥)
    → end ≡ behind_of line p → Some (n, end) ≡ number_at line at
unfolding number_at value_of
number-whole {line} {at} {n} {p} {end} c i f b =
    let e : digits_at line p ≡ [] = digits-end line p i in
    let q : at + length (digits_at line at) ≡ p = omega (arith, c.place, ap length e) in
    let v : value_of 0 (digits_at line at) % 2 ^ 64 ≡ n =
    c.value ∙ ap (λ (ds : List ℕ). value_of n ds % 2 ^ 64) e ∙ mod-eq_of_lt c.low in
    rw (q, ← b) (some (digits_at line at) n end (omega arith) (sym v))
