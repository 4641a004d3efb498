-- The frames, innermost first, as long as the last of each is finished.
use Rattle.std.proofs.Common.{rules}
use Rattle.resume.proofs.Popped.{popped_on, popped_more, none_left, not_entered, task-waits, task-out, task-finished}
use Rattle.resume.proofs.Feeding.popping.Goals as goal

pub returns-in_err-rest-clause-steps : goal.returns-in_err-rest-clause-steps
returns-in_err-rest-clause-steps c = popped_on c.loop-self.invariant.0 (not_entered c.loop-self-test.true (rw c.innermost-f.ensures at c.in_err-rest.ensures.enters) c.from_residual.ensures)

pub returns-in_err-w-clause-steps : goal.returns-in_err-w-clause-steps
returns-in_err-w-clause-steps c =
    popped_on c.loop-self.invariant.0
    (task-out c.loop-self-test.true (rw c.innermost-f.ensures at c.in_ok-rest.ensures.enters) c.in_err-w.ensures.goes c.from_residual-in_err-w.ensures)

pub returns-in-Wait-clause-steps : goal.returns-in-Wait-clause-steps
returns-in-Wait-clause-steps c =
    popped_on c.loop-self.invariant.0
    (task-waits c.loop-self-test.true (rw c.innermost-f.ensures at c.in_ok-rest.ensures.enters) (rw c.in-Wait.is at c.in_ok-w.ensures.goes))

pub loop-self-preserved : goal.loop-self-preserved
loop-self-preserved c = (
  popped_more c.loop-self.invariant.0 (task-finished c.loop-self-test.true (rw c.innermost-f.ensures at c.in_ok-rest.ensures.enters) (rw c.in_default.is at c.in_ok-w.ensures.goes)),
  search rules,
  search rules,
)

pub returns-clause-steps : goal.returns-clause-steps
returns-clause-steps c = popped_on c.loop-self.invariant.0 (none_left c.loop-self-test.false)
