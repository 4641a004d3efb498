-- A test of one bit, as a remainder.
use mathlib.Core.Path.{◌≡◌, ap, sym, ◌∙◌}
use mathlib.Core.Bool.{true, false}
use Prim.Native.Nat.{ℕ, ◌*◌, ◌^◌}
use native.Mathlib.Omega.{arith}
use native.Mathlib.Decide.{dec_lt}
use borrow.Author.Tests.{eq-eqb, ne_eqb}
use lib.Bits.{bit_and}
use lib.Dec.{eqb}
use lib.Pow.{pow_pos}
use Rattle.wire.specs.Word.{bit}
use Rattle.wire.proofs.Shift.{one_bit}

pub flag : (w k : ℕ) → eqb (bit_and w (2 ^ k)) 0 ≡ eqb (bit k w) 0
flag w k =
    elim (dec_lt 0 (bit k w)) [
      | yes h ↦
          (let u : bit k w ≡ 1 = omega arith in
          let v : bit_and w (2 ^ k) ≡ 2 ^ k = one_bit w k ∙ ap (λ (x : ℕ). x * 2 ^ k) u ∙ omega arith in
          ne_eqb (bit_and w (2 ^ k)) 0 (λ z. omega (arith, pow_pos k)) ∙ sym (ne_eqb (bit k w) 0 (λ z. omega arith)))
      | no h ↦
          (let u : bit k w ≡ 0 = omega arith in
          let v : bit_and w (2 ^ k) ≡ 0 = one_bit w k ∙ ap (λ (x : ℕ). x * 2 ^ k) u ∙ omega arith in
          eq-eqb (bit_and w (2 ^ k)) 0 v ∙ sym (eq-eqb (bit k w) 0 u))
    ]

-- the flag is clear, or set
pub off : (w k : ℕ) → bit_and w (2 ^ k) ≡ 0 → eqb (bit k w) 0 ≡ true
off w k e = sym (flag w k) ∙ eq-eqb (bit_and w (2 ^ k)) 0 e

pub on : (w k : ℕ) → (bit_and w (2 ^ k) ≡ 0 → ⊥) → eqb (bit k w) 0 ≡ false
on w k e = sym (flag w k) ∙ ne_eqb (bit_and w (2 ^ k)) 0 e
