-- The digits so far gave n, and the digits from p on give the rest.
use Rattle.lines.proofs.Numbers.{number_more, number-missing, number-whole}
use Rattle.lines.proofs.number.Goals as goal

pub loop-d-preserved : goal.loop-d-preserved
loop-d-preserved c = rw c.from.ensures (number_more c.loop-d.invariant c.in-Some.ensures.digit)

pub returns-then-p-at : goal.returns-then-p-at
returns-then-p-at c =
    number-missing c.args.line.now c.args.at c.loop-d.p c.in_default.ensures.digit c.if-p-at.true

pub returns : goal.returns
returns c = number-whole c.loop-d.invariant c.in_default.ensures.digit c.if-p-at.false c.behind.ensures
