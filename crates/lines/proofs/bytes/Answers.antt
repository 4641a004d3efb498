-- The bytes so far were put, and the digits from p on make the rest.
use Rattle.std.proofs.Common.{◌∙◌, sym}
use Rattle.lines.proofs.Fill.{fill-odd, fill-full, fill-whole, fill_more}
use Rattle.lines.proofs.bytes.Goals as goal

pub returns-in_err-low : goal.returns-in_err-low
returns-in_err-low c =
    rw c.from_residual.ensures (fill-odd c.loop-high.invariant c.in-Some.ensures.digit (sym c.in_err-low.was ∙ c.digit_at-in-Some.ensures.digit))

pub returns-then-out-n : goal.returns-then-out-n
returns-then-out-n c = fill-full c.loop-high.invariant c.in-Some.ensures.digit c.in_ok-low.ensures.digit c.if-out-n.true

pub loop-high-preserved : goal.loop-high-preserved
loop-high-preserved c =
    fill_more c.loop-high.invariant c.in-Some.ensures.digit c.in_ok-low.ensures.digit c.if-out-n.false

pub returns : goal.returns
returns c = fill-whole c.loop-high.invariant c.in_default.ensures.digit c.behind.ensures
