-- What is left of the slice is folded from the state so far.
use native.Mathlib.Omega.{arith}
use mathlib.Core.Path.{sym, ◌∙◌}
use lib.ListN.{get_or}
use Rattle.utf8.proofs.States.{step_le}
use Rattle.utf8.proofs.Moves.{class-column, looked-up}
use Rattle.utf8.proofs.Fold.{fold_step, fold_plain, fold_end}
use Rattle.utf8.proofs.run_on.Goals as goal

pub loop-b-preserved-then-b-lt-PAST_PLAIN : goal.loop-b-preserved-then-b-lt-PAST_PLAIN
loop-b-preserved-then-b-lt-PAST_PLAIN c =
    (c.loop-b.invariant.0, c.loop-b.invariant.1 ∙ fold_plain c.loop-b.at c.loop-b.b-index _ (omega arith) c.loop-b-test.true c.if-b-lt-PAST_PLAIN.true)

pub moved-at-requires : goal.moved-at-requires
moved-at-requires c = (c.loop-b.invariant.0, class-column _ (c.type_inv.rest c.loop-b.b-index).fits)

pub loop-b-preserved : goal.loop-b-preserved
loop-b-preserved c =
    rw (c.moved-at.ensures ∙ looked-up c.loop-b.at (get_or c.args.rest.now c.loop-b.b-index 0) c.loop-b.invariant.0 (c.type_inv.rest c.loop-b.b-index).fits)
    (step_le _ _, c.loop-b.invariant.1 ∙ fold_step c.loop-b.at c.loop-b.b-index _ c.loop-b-test.true)

pub returns : goal.returns
returns c = sym (c.loop-b.invariant.1 ∙ fold_end c.loop-b.at c.loop-b.b-index _ c.loop-b-test.false)
