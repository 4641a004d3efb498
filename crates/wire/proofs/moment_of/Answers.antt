-- The whole part of the size, then the sign.
use mathlib.Core.Path.{sym, ap, ◌∙◌}
use Prim.Native.Nat.{ℕ, ◌^◌}
use borrow.Author.Tests.{not-true, not-false}
use lib.Bits.{and_mask}
use native.Mathlib.Nat.{mod-lt}
use lib.Dec.{leb, lit<}
use lib.Ieee.{binary64, of_bits, to_unsigned}
use lib.Ieee.Casts.{to_signed_in}
use Rattle.wire.specs.Date.{bounded}
use Rattle.std.proofs.Common.{Some}
use Rattle.wire.proofs.Dates as dates
use Rattle.wire.proofs.Steps as steps
use Rattle.wire.proofs.moment_of.Goals as goal

pub whole_part-whole-requires : goal.whole_part-whole-requires
whole_part-whole-requires c = rw (and_mask c.args.bits 63) (
  mod-lt c.args.bits (lit< tt),
  dates.refused-size
      c.args.bits ∙ (not-true _ (sym c.is_date.ensures ∙ c.if-not-is_date.false)),
)

pub returns : goal.returns
returns c = ap Some (steps.kept (c.signed.ensures ∙ ap (bounded (leb (2 ^ 63) c.args.bits))
    (c.whole_part-whole.ensures ∙ ap (λ (n : ℕ). to_unsigned 64 (of_bits binary64 n)) (and_mask c.args.bits 63))
    ∙ sym (dates.signed_is c.args.bits (not-true _ (sym c.is_date.ensures ∙
    c.if-not-is_date.false)))) (to_signed_in 63 (of_bits binary64 c.args.bits))) ∙ sym (dates.moment-at
    c.args.bits (not-true _ (sym c.is_date.ensures ∙ c.if-not-is_date.false)))

pub returns-then-not-is_date : goal.returns-then-not-is_date
returns-then-not-is_date c = sym (dates.no-moment c.args.bits (not-false _ (sym c.is_date.ensures ∙ c.if-not-is_date.true)))
