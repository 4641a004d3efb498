use Rattle.wire.specs.Word.{size_of}
use Rattle.wire.proofs.Word.{off, on}
use Rattle.wire.proofs.size_of.Goals as goal

pub returns-then-w-eq0 : goal.returns-then-w-eq0
unfolding size_of
returns-then-w-eq0 c = simp (off c.args.w 0 c.if-w-eq0.true)

pub returns : goal.returns
unfolding size_of
returns c = simp (on c.args.w 0 c.if-w-eq0.false)
