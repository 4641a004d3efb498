-- One more name, or the trait is whole.
use Rattle.format.specs.Step.{members}
use Rattle.format.specs.Numbers.{work_of, use_work}
use Rattle.resume.proofs.Moves.{as_is, waits, stopped_by, after_it}
use Rattle.resume.proofs.Amounts.{no_names, more-names}
use Rattle.resume.proofs.Feeding.naming.Goals as goal

pub returns-then-n-ne0-clause-steps : goal.returns-then-n-ne0-clause-steps
unfolding work_of use_work
returns-then-n-ne0-clause-steps c = as_is (λ ts c' m. more-names _ _ _ _ _ _ c.if-n-ne0.true) (waits (rw c.string_work.ensures))

pub returns-in_err-trait_end-clause-steps : goal.returns-in_err-trait_end-clause-steps
returns-in_err-trait_end-clause-steps c =
    as_is (λ ts c' m. no_names _ _ _ _ _ _ c.if-n-ne0.false)
    (stopped_by (λ ts y. members ts c.args.row c.args.t) c.in_err-trait_end.ensures.decided c.from_residual.ensures)

pub returns-clause-steps : goal.returns-clause-steps
returns-clause-steps c =
    as_is (λ ts c' m. no_names _ _ _ _ _ _ c.if-n-ne0.false)
    (after_it (λ ts y. members ts c.args.row c.args.t) c.in_ok-trait_end.ensures.decided c.members_of.ensures.steps)
