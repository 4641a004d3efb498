use Prim.Native.Nat.{◌/◌}
use Rattle.wire.specs.Word.{shape_of}
use Rattle.wire.proofs.Word.{off, on}
use lib.Bits.{and_mask}
use Rattle.wire.proofs.shape_of.Goals as goal

pub returns-then-w-eq0 : goal.returns-then-w-eq0
unfolding shape_of
returns-then-w-eq0 c = simp (off c.args.w 0 c.if-w-eq0.true)

pub returns-then-w-eq0-2 : goal.returns-then-w-eq0-2
unfolding shape_of
returns-then-w-eq0-2 c = simp (on c.args.w 0 c.if-w-eq0.false, off c.args.w 1 c.if-w-eq0-2.true)

pub returns-then-w-eq0-3 : goal.returns-then-w-eq0-3
unfolding shape_of
returns-then-w-eq0-3 c = simp (
  on c.args.w 0 c.if-w-eq0.false,
  on c.args.w 1 c.if-w-eq0-2.false,
  off c.args.w 2 c.if-w-eq0-3.true,
  and_mask (c.args.w / 8) 1,
)

pub returns : goal.returns
unfolding shape_of
returns c = simp (
  on c.args.w 0 c.if-w-eq0.false,
  on c.args.w 1
      c.if-w-eq0-2.false,
  on c.args.w 2 c.if-w-eq0-3.false,
)
