-- The decision, and the value's frame.
use Rattle.format.specs.Step.{entry, task_of, values_of}
use Rattle.resume.proofs.Moves.{gives, gives_not}
use Rattle.resume.proofs.Feeding.key_done.Goals as goal

pub returns-in_err-key_end-clause-enters : goal.returns-in_err-key_end-clause-enters
unfolding entry
returns-in_err-key_end-clause-enters c = gives_not (λ k y. k (values_of c.args.f.row c.args.f.left c.args.f.done)) c.in_err-key_end.ensures c.from_residual.ensures

pub returns-clause-enters : goal.returns-clause-enters
unfolding entry task_of
returns-clause-enters c = gives c.in_ok-key_end.ensures
