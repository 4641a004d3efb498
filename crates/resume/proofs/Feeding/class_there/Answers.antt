-- The trait, the row's class, and the names.
use Rattle.std.proofs.Common.{sym}
use Rattle.format.specs.Step.{had, naming}
use Rattle.resume.proofs.Moves.{as_here, stopped_by, after_it}
use Rattle.resume.proofs.Feeding.class_there.Goals as goal

pub returns-in_err-object_class-clause-steps : goal.returns-in_err-object_class-clause-steps
unfolding had
returns-in_err-object_class-clause-steps c =
    as_here (stopped_by (λ ts y. naming ts c.args.row c.trait_of-t.result c.args.n) c.in_err-object_class.ensures.decided c.from_residual.ensures) (rw (sym c.trait_of-t.ensures))

pub returns-clause-steps : goal.returns-clause-steps
unfolding had
returns-clause-steps c =
    as_here (after_it (λ ts y. naming ts c.args.row c.trait_of-t.result c.args.n) c.in_ok-object_class.ensures.decided c.naming.ensures.steps) (rw (sym c.trait_of-t.ensures))
