-- The name's place, and the names that are to come.
use Rattle.format.specs.Step.{had, naming}
use Rattle.resume.proofs.Moves.{stopped_by, after_it}
use Rattle.resume.proofs.Feeding.name_there.Goals as goal

pub returns-in_err-named-clause-steps : goal.returns-in_err-named-clause-steps
unfolding had
returns-in_err-named-clause-steps c = stopped_by (λ ts y. naming ts c.args.row c.args.t c.args.n) c.in_err-named.ensures.decided c.from_residual.ensures

pub returns-clause-steps : goal.returns-clause-steps
unfolding had
returns-clause-steps c = after_it (λ ts y. naming ts c.args.row c.args.t c.args.n) c.in_ok-named.ensures.decided c.naming.ensures.steps
