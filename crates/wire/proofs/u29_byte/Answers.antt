use native.Mathlib.Omega.{arith}
use mathlib.Core.Path.{sym, ap, ◌∙◌}
use Rattle.std.proofs.Common.{Some}
use Prim.Native.Nat.{ℕ, ◌*◌, ◌-◌, ◌≤◌, ◌<◌}
use lib.Dec.{lit≤}
use native.Mathlib.Nat.{pos_of_ne-zero}
use Rattle.wire.specs.U29.{part_of}
use Rattle.wire.specs.declared.Part.TheVariants.{More, Whole}
use Rattle.wire.proofs.Digits.{too_many, too_large, before_small}
use Rattle.wire.proofs.Shift.{join, shifted-out, not-shifted-out, clear, set-high, low7}
use Rattle.wire.proofs.U29.{part-fourth, part-last, part-more}
use Rattle.wire.proofs.u29_byte.Goals as goal

pub returns-then-left-gt3 : goal.returns-then-left-gt3
unfolding part_of
returns-then-left-gt3 c = sym (too_many 7 3 _ _ _ c.if-left-gt3.true)

pub returns-then-n-before-ne0 : goal.returns-then-n-before-ne0
unfolding part_of
returns-then-n-before-ne0 c = sym (too_large 7 3 _ _ _ c.if-left-gt3.false (not-shifted-out _ _ c.if-n-before-ne0.true))

pub returns-then-left-eq0 : goal.returns-then-left-eq0
returns-then-left-eq0 c = rw c.from.ensures (ap (λ (k : ℕ). Some (Whole k)) (join 21 8 64 (before_small 7 3 c.args.left (shifted-out _ (7 * (3 -
    c.args.left)) c.if-n-before-ne0.false)) (omega arith) (lit≤ tt)) ∙ sym (part-fourth _ _ _
    c.if-left-gt3.false (shifted-out _ (7 * (3 - c.args.left)) c.if-n-before-ne0.false) c.if-left-eq0.true))

pub returns-then-b-eq0 : goal.returns-then-b-eq0
returns-then-b-eq0 c = let h : c.args.b < 128 = clear (omega arith) c.if-b-eq0.true in
    rw c.from-then-b-eq0.ensures (ap (λ (k : ℕ). Some (Whole k)) (join 21 7 64 (before_small 7 3 c.args.left (shifted-out _ (7 * (3 -
    c.args.left)) c.if-n-before-ne0.false)) h (lit≤ tt)) ∙ sym (part-last _ _ _
    c.if-left-gt3.false (shifted-out _ (7 * (3 - c.args.left))
    c.if-n-before-ne0.false) (pos_of_ne-zero c.if-left-eq0.false) h))

pub returns : goal.returns
returns c = let h : 128 ≤ c.args.b = set-high (omega arith) c.if-b-eq0.false in
    rw (c.from-2.ensures, low7 (omega arith) h) (ap (λ (k : ℕ). Some (More k)) (join 21 7 64 (before_small 7 3 c.args.left (shifted-out _ (7 * (3 -
    c.args.left)) c.if-n-before-ne0.false)) (omega arith) (lit≤ tt)) ∙ sym (part-more _ _ _
    c.if-left-gt3.false (shifted-out _ (7 * (3 - c.args.left))
    c.if-n-before-ne0.false) (pos_of_ne-zero c.if-left-eq0.false) h))
