-- Whether it is *, the row's class, and the entries.
use Rattle.std.proofs.Common.{◌≡◌, rules}
use Rattle.format.specs.Decide.{on_rows, vector_class}
use Rattle.format.specs.Step.{had, on, onward, task_of, items_of, vector}
use Rattle.resume.proofs.Moves.{stopped_by, after_it}
use Rattle.resume.proofs.Feeding.vector_there.Goals as goal

pub returns-in_err-star-clause-steps : goal.returns-in_err-star-clause-steps
unfolding had
returns-in_err-star-clause-steps c =
    stopped_by (λ ts star c' m. on (on_rows (vector_class c.args.row star c.args.p) m c') m (λ y. onward ts (items_of vector c.args.row c.args.n 0)))
    c.in_err-star.ensures c.from_residual.ensures

pub returns-in_err-vector_class-clause-steps : goal.returns-in_err-vector_class-clause-steps
unfolding had
returns-in_err-vector_class-clause-steps c =
    after_it (λ ts star c' m. on (on_rows (vector_class c.args.row star c.args.p) m c') m (λ y. onward ts (items_of vector c.args.row c.args.n 0)))
    c.in_ok-star.ensures
    (stopped_by (λ ts y. onward ts (items_of vector c.args.row c.args.n 0)) c.in_err-vector_class.ensures.decided c.from_residual-in_err-vector_class.ensures)

pub returns-clause-steps : goal.returns-clause-steps
unfolding had task_of
returns-clause-steps c =
    let e : c.default.result.done ≡ 0 = search rules in
    after_it (λ ts star c' m. on (on_rows (vector_class c.args.row star c.args.p) m c') m (λ y. onward ts (items_of vector c.args.row c.args.n 0)))
    c.in_ok-star.ensures
    (after_it (λ ts y. onward ts (items_of vector c.args.row c.args.n 0)) c.in_ok-vector_class.ensures.decided (rw e at c.onward.ensures.steps))
