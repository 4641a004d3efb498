-- What is left to be stored behind i bytes: k - i groups and the last byte.
use native.Mathlib.Omega.{arith}
use mathlib.Core.Path.{◌≡◌, refl, sym, ap, ◌∙◌}
use mathlib.Core.List.{[], ◌∷◌, ◌++◌}
use Prim.Native.Nat.{ℕ, ◌+◌, ◌-◌, ◌*◌, ◌/◌, ◌%◌, ◌^◌, ◌≤◌}
use lib.ListN.{set}
use lib.Pow.{pow_pos, pow_mono}
use lib.Seq.{sets}
use native.Mathlib.Nat.{lt_of_lt_of_le, mod-lt}
use borrow.Author.Tests.{eq-eqb, ne_eqb}
use Rattle.wire.specs.U29.{groups}
use Rattle.wire.proofs.Shift.{with_bit, low_bits}
use Rattle.wire.proofs.U29.{last_le, put-group, put_last}
use Rattle.wire.proofs.put_form.Goals as goal
use Rattle.wire.proofs.put_form.Goals.{then-k-eq3, else-k-eq3}

pub overflow_shr-m : goal.overflow_shr-m
overflow_shr-m c = elim c.if-k-eq3.branch [ then-k-eq3 w ↦ omega arith | else-k-eq3 w ↦ omega arith ]

pub loop-i-init : goal.loop-i-init
loop-i-init c =
    let p : c.args.at + 0 ≡ c.args.at = omega arith in
    let q : c.args.k - 0 ≡ c.args.k = omega arith in (
      elim c.if-k-eq3.branch [
        | then-k-eq3 w ↦ w.last-is ∙ sym (simp (eq-eqb _ _ w.if-k-eq3.true))
        | else-k-eq3 w ↦ w.last-is ∙ sym (simp (ne_eqb _ _ w.if-k-eq3.false))
      ],
      rw (p, q) refl,
    )

pub overflow_cast-out : goal.overflow_cast-out
overflow_cast-out c = record { fits = rw (with_bit 7) (omega arith) }

pub loop-i-preserved : goal.loop-i-preserved
loop-i-preserved c =
    let p : c.args.at + c.loop-i.i + 1 ≡ c.args.at + (c.loop-i.i + 1) = omega arith in
    let q : c.args.k - c.loop-i.i - 1 ≡ c.args.k - (c.loop-i.i + 1) = omega arith in
    let b : c.args.k - 1 - c.loop-i.i ≡ c.args.k - c.loop-i.i - 1 = omega arith in
    let m : ℕ = c.args.n / 2 ^ c.if-k-eq3.last in
    let e = put-group c.loop-i.out (c.args.at + c.loop-i.i) (c.args.k - c.loop-i.i) m _ (c.args.n % 2 ^ c.if-k-eq3.last ∷ []) (omega arith)
    (with_bit 7 (m / 2 ^ (7 * (c.args.k - 1 - c.loop-i.i))) ∙ ap (λ (j : ℕ). 2 ^ 7 + m / 2 ^ (7 * j) % 2 ^ 7) b) in
    (c.loop-i.invariant.0, c.loop-i.invariant.1 ∙ (rw (p, q) at e))

pub overflow_shl-out : goal.overflow_shl-out
overflow_shl-out c = omega (arith, last_le c.args.k, c.loop-i.invariant.0)

pub overflow_cast-out-2 : goal.overflow_cast-out-2
overflow_cast-out-2 c =
    let h : c.if-k-eq3.last ≤ 8 = omega (arith, last_le c.args.k, c.loop-i.invariant.0) in
    record { fits = rw (low_bits c.args.n c.if-k-eq3.last 64 (omega arith)) (lt_of_lt_of_le (mod-lt _ (pow_pos _)) (pow_mono {j = 8} h)) }

pub returns : goal.returns
returns c =
    let j : c.args.k - c.loop-i.i ≡ 0 = omega arith in
    let i : c.loop-i.i ≡ c.args.k = omega arith in
    let h : c.if-k-eq3.last ≤ 8 = omega (arith, last_le c.args.k, c.loop-i.invariant.0) in
    let e = put_last c.loop-i.out (c.args.at + c.loop-i.i) (c.args.k - c.loop-i.i) (c.args.n / 2 ^ c.if-k-eq3.last) (c.args.n % 2 ^ c.if-k-eq3.last) j in
    rw (low_bits c.args.n c.if-k-eq3.last 64 (omega arith))
    (ap (λ (p : ℕ). set c.loop-i.out (c.args.at + p) (c.args.n % 2 ^ c.if-k-eq3.last)) (sym i) ∙ sym e ∙ sym c.loop-i.invariant.1
    ∙ ap (λ (l : ℕ). sets c.args.out.now c.args.at (groups c.args.k (c.args.n / 2 ^ l) ++ (c.args.n % 2 ^ l ∷ []))) c.loop-i.invariant.0)
