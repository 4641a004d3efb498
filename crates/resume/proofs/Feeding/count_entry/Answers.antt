-- The decision, and the frame with one more done.
use Rattle.std.proofs.Common.{◌+◌, refl, arith}
use Rattle.format.specs.Step.{task_of, frame}
use Rattle.resume.proofs.Moves.{gives, gives_not}
use Rattle.resume.proofs.Feeding.count_entry.Goals as goal

pub returns-in_err-counted-clause-enters : goal.returns-in_err-counted-clause-enters
returns-in_err-counted-clause-enters c =
    let f = c.args.f in
    gives_not (λ k y. k (task_of (frame c.args.task f.row f.left (f.done + 1) f.first f.dynamic))) c.in_err-counted.ensures.decided c.from_residual.ensures

pub overflow_add-result : goal.overflow_add-result
overflow_add-result c = omega (arith, c.in_ok-counted.ensures.fewer refl)

pub returns-clause-enters : goal.returns-clause-enters
returns-clause-enters c = gives c.in_ok-counted.ensures.decided
