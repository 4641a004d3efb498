-- The trait, and the row's class, and the members.
use Rattle.format.specs.Decide.{on_rows, object_class}
use Rattle.format.specs.Step.{on, members}
use Rattle.resume.proofs.Moves.{stopped_by, after_it}
use Rattle.words.proofs.object_known.Goals as goal

pub returns-in_err-t-clause-steps : goal.returns-in_err-t-clause-steps
returns-in_err-t-clause-steps c = stopped_by (λ ts t c' m. on (on_rows (object_class c.args.row t) m c') m (λ y. members ts c.args.row t)) c.in_err-t.ensures c.from_residual.ensures

pub returns-in_err-object_class-clause-steps : goal.returns-in_err-object_class-clause-steps
returns-in_err-object_class-clause-steps c =
    after_it (λ ts t c' m. on (on_rows (object_class c.args.row t) m c') m (λ y. members ts c.args.row t)) c.in_ok-t.ensures
    (stopped_by (λ ts y. members ts c.args.row c.in_ok-t.t) c.in_err-object_class.ensures.decided c.from_residual-in_err-object_class.ensures)

pub returns-clause-steps : goal.returns-clause-steps
returns-clause-steps c =
    after_it (λ ts t c' m. on (on_rows (object_class c.args.row t) m c') m (λ y. members ts c.args.row t)) c.in_ok-t.ensures
    (after_it (λ ts y. members ts c.args.row c.in_ok-t.t) c.in_ok-object_class.ensures.decided c.members_of.ensures.steps)
