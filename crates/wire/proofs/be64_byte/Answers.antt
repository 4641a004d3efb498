-- One byte of a number of eight.
use native.Mathlib.Omega.{arith}
use mathlib.Core.Path.{sym, ap, ◌∙◌}
use Rattle.std.proofs.Common.{Some}
use Prim.Native.Nat.{ℕ, ◌*◌, ◌-◌}
use lib.Dec.{lit≤}
use native.Mathlib.Nat.{pos_of_ne-zero}
use Rattle.wire.specs.Big.{digit_of}
use Rattle.wire.specs.declared.Part.TheVariants.{More, Whole}
use Rattle.wire.proofs.Big.{digit-last, digit-more}
use Rattle.wire.proofs.Digits.{too_many, too_large, before_small}
use Rattle.wire.proofs.Shift.{join, shifted-out, not-shifted-out}
use Rattle.wire.proofs.be64_byte.Goals as goal

pub returns-then-left-gt7 : goal.returns-then-left-gt7
unfolding digit_of
returns-then-left-gt7 c = sym (too_many 8 7 _ _ _ c.if-left-gt7.true)

pub returns-then-n-before-ne0 : goal.returns-then-n-before-ne0
unfolding digit_of
returns-then-n-before-ne0 c = sym (too_large 8 7 _ _ _ c.if-left-gt7.false (not-shifted-out _ _ c.if-n-before-ne0.true))

pub returns-then-left-eq0 : goal.returns-then-left-eq0
returns-then-left-eq0 c = rw c.from.ensures (ap (λ (k : ℕ). Some (Whole k)) (join 56 8 64 (before_small 8 7 c.args.left (shifted-out _ (8 * (7 -
    c.args.left)) c.if-n-before-ne0.false)) (omega arith) (lit≤ tt)) ∙ sym (digit-last _ _ _ c.if-left-gt7.false
    (shifted-out _ (8 * (7 - c.args.left)) c.if-n-before-ne0.false) c.if-left-eq0.true))

pub returns : goal.returns
returns c = rw c.from.ensures (ap (λ (k : ℕ). Some (More k)) (join 56 8 64 (before_small 8 7 c.args.left (shifted-out _ (8 * (7 -
    c.args.left)) c.if-n-before-ne0.false)) (omega arith) (lit≤ tt)) ∙ sym (digit-more _ _ _ c.if-left-gt7.false
    (shifted-out _ (8 * (7 - c.args.left)) c.if-n-before-ne0.false) (pos_of_ne-zero c.if-left-eq0.false)))
