-- The remainder modulo 2 ^ 29, where the integer is in the range.
use native.Mathlib.Omega.{arith}
use mathlib.Core.Path.{sym, ap, ◌∙◌}
use Prim.Native.Nat.{ℕ, ◌%◌, ◌^◌}
use Rattle.wire.proofs.Sign as sign
use Rattle.wire.proofs.Steps as steps
use Rattle.std.proofs.Common.{Some}
use Rattle.wire.proofs.integer_bits.Goals as goal
use Rattle.wire.proofs.integer_bits.Goals.{then-v-lt-LEAST-via-then-v-lt-LEAST, then-v-lt-LEAST-via-else-v-lt-LEAST+then-v-gt-GREATEST}

pub returns-then-v-lt-LEAST : goal.returns-then-v-lt-LEAST
returns-then-v-lt-LEAST c =
    elim c.then-v-lt-LEAST.branch [
      | then-v-lt-LEAST-via-then-v-lt-LEAST w ↦ sym (steps.too_low c.ranges.v w.if-v-lt-LEAST.true)
      | then-v-lt-LEAST-via-else-v-lt-LEAST+then-v-gt-GREATEST w ↦ sym (steps.too_high c.ranges.v w.if-v-gt-GREATEST.true)
    ]

pub overflow_add-result : goal.overflow_add-result
overflow_add-result c = steps.held (steps.raised_is c.ranges.v (steps.in_range c.ranges.v c.if-v-lt-LEAST.false
    c.if-v-gt-GREATEST.false)) (omega (
      arith,
      steps.raised_lt c.args.v (steps.in_range c.ranges.v c.if-v-lt-LEAST.false
          c.if-v-gt-GREATEST.false),
    ))

pub overflow_cast-result-2 : goal.overflow_cast-result-2
overflow_cast-result-2 c = steps.cast (steps.raised_is c.ranges.v (steps.in_range c.ranges.v c.if-v-lt-LEAST.false
    c.if-v-gt-GREATEST.false)) (omega (
      arith,
      steps.raised_lt c.args.v (steps.in_range c.ranges.v c.if-v-lt-LEAST.false
          c.if-v-gt-GREATEST.false),
    ))

pub returns : goal.returns
returns c = ap (λ (k : ℕ). Some (k % 2 ^ 29)) (steps.cast_is (steps.raised_is c.ranges.v (steps.in_range
    c.ranges.v c.if-v-lt-LEAST.false c.if-v-gt-GREATEST.false)) (omega (
      arith,
      steps.raised_lt c.args.v (steps.in_range
          c.ranges.v c.if-v-lt-LEAST.false c.if-v-gt-GREATEST.false),
    ))) ∙ ap Some (steps.raised-bits c.args.v (steps.in_range
    c.ranges.v c.if-v-lt-LEAST.false c.if-v-gt-GREATEST.false)) ∙ sym (sign.bits-of c.args.v (steps.in_range
    c.ranges.v c.if-v-lt-LEAST.false c.if-v-gt-GREATEST.false))
