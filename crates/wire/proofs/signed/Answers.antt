-- In the range, or at one of its ends.
use mathlib.Core.Path.{sym, ◌∙◌}
use Rattle.wire.proofs.Steps as steps
use Rattle.wire.proofs.signed.Goals as goal

pub overflow_sub-result : goal.overflow_sub-result
overflow_sub-result c = steps.held (steps.opposite c.args.whole c.if-whole-lt-PAST.true) (steps.opposite-fits
    c.args.whole c.if-whole-lt-PAST.true)

pub returns-then-negative : goal.returns-then-negative
returns-then-negative c = steps.kept (steps.opposite c.args.whole c.if-whole-lt-PAST.true) (steps.opposite-fits c.args.whole
    c.if-whole-lt-PAST.true) ∙ sym (steps.held_below c.args.whole c.args.negative c.if-negative.true
    c.if-whole-lt-PAST.true)

pub returns-then-whole-lt-PAST : goal.returns-then-whole-lt-PAST
returns-then-whole-lt-PAST c = sym (steps.held-above c.args.whole c.args.negative c.if-negative.false c.if-whole-lt-PAST.true)

pub returns-then-negative-2 : goal.returns-then-negative-2
returns-then-negative-2 c = sym (steps.held_first c.args.whole c.args.negative c.if-negative-2.true c.if-whole-lt-PAST.false)

pub returns : goal.returns
returns c = sym (steps.held-last c.args.whole c.args.negative c.if-negative-2.false c.if-whole-lt-PAST.false)
