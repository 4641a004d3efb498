-- The digits at a place of a line: one and those behind it, or none; and a digit that is shifted in.
use Rattle.std.proofs.Common.{◌≡◌, ℕ, ◌+◌, ◌*◌, ◌%◌, ◌^◌, ◌<◌, ◌≤◌, Option, Some, None, inl, inr, slice_get, List, [], ◌∷◌, length, sym, ap, ◌∙◌, add-zero, add-one, arith, drop_of_length-le, drop-cons}
use Rattle.std.proofs.lemmas.Option.{slice_get-get_or, slice_get_past, option_and_then_some}
use Rattle.std.proofs.lemmas.Bool.{cases_lt}
use Rattle.std.proofs.lemmas.Bool.Decides.{nat_tests}
use native.Mathlib.Nat.{mul-mod_left}
use lib.Bits.{bit_or, or_shifted}
use lib.Pow.{shl-shr, high, low, mod-pow-add}
use Rattle.lines.specs.Lines.{digit_of, digit_at, before, digits_of, digits_at}

-- the digits at a place: its digit, and then those behind it
pub digits_next : (line : List ℕ) (p : ℕ) → digits_at line p ≡ before (digit_at line p) (digits_at line (p + 1))
unfolding digits_of digit_at
digits_next line p =
    elim (cases_lt p (length line)) [
      | inl h ↦ rw (slice_get-get_or line p 0 h, add-one, drop-cons line p 0 h)
      | inr h ↦ rw (slice_get_past line p h, drop_of_length-le line h)
    ]

pub digits_more : (line : List ℕ) (p : ℕ) {d : ℕ} → Some d ≡ digit_at line p → digits_at line p ≡ d ∷ digits_at line (p + 1)
digits_more line p e = digits_next line p ∙ ap (λ (o : Option ℕ). before o (digits_at line (p + 1))) (sym e)

pub digits-end : (line : List ℕ) (p : ℕ) → None ≡ digit_at line p → digits_at line p ≡ []
digits-end line p e = digits_next line p ∙ ap (λ (o : Option ℕ). before o (digits_at line (p + 1))) (sym e)

-- a digit is below 16
digit-least : (b d : ℕ) → digit_of b ≡ Some d → d ≤ 15
unfolding digit_of
digit-least b d e = grind (arith, nat_tests)

pub digit_at-least : (line : List ℕ) (p : ℕ) {d : ℕ} → Some d ≡ digit_at line p → d ≤ 15
unfolding digit_at
digit_at-least line p {d} e = option_and_then_some digit_of (slice_get line p) d (sym e) (λ b h f. digit-least b d f)

-- a shift by four bits, in a word of four more than j, and a digit below them
pub shifted : (j n d : ℕ) → d ≤ 15 → bit_or (n * 2 ^ 4 % 2 ^ (j + 4)) d ≡ (n * 2 ^ 4 + d) % 2 ^ (j + 4)
shifted j n d t =
    let h : d < 2 ^ 4 = omega arith in
    let e : n * 2 ^ 4 % 2 ^ (j + 4) ≡ n % 2 ^ j * 2 ^ 4 =
    mod-pow-add (n * 2 ^ 4) j 4 ∙ rw (shl-shr n 4, mul-mod_left n (2 ^ 4)) (add-zero (n % 2 ^ j * 2 ^ 4)) in
    let f : (n * 2 ^ 4 + d) % 2 ^ (j + 4) ≡ n % 2 ^ j * 2 ^ 4 + d = mod-pow-add (n * 2 ^ 4 + d) j 4 ∙ rw (high n 4 h, low n 4 h) in
    ap (λ (x : ℕ). bit_or x d) e ∙ or_shifted (n % 2 ^ j) 4 d h ∙ sym f
