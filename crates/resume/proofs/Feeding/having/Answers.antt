-- By the purpose.
use Rattle.std.proofs.Common.{refl, arith, rules}
use Rattle.format.specs.Step.{broken, had, frame_of, assoc, dynamics}
use Rattle.resume.proofs.Moves.{as_is, refuses}
use Rattle.resume.proofs.Uses.{no_use}
use Rattle.resume.proofs.Feeding.having.Goals as goal

pub returns-in-12-clause-steps : goal.returns-in-12-clause-steps
unfolding had frame_of
returns-in-12-clause-steps c = rw c.in-12.is (c.keyed.ensures.steps (assoc c.args.w.row c.args.w.count c.args.w.done) (search rules))

pub returns-in-13-clause-steps : goal.returns-in-13-clause-steps
unfolding had frame_of
returns-in-13-clause-steps c = rw c.in-13.is (c.keyed-in-13.ensures.steps (dynamics c.args.w.row c.args.w.done) (search rules))

pub returns-in-15-clause-steps : goal.returns-in-15-clause-steps
unfolding had
returns-in-15-clause-steps c = rw (c.in-15.is, c.refuse.ensures) (refuses refl)

pub returns-in_default-clause-steps : goal.returns-in_default-clause-steps
returns-in_default-clause-steps c =
    rw c.lost.ensures (as_is (λ ts c' m. no_use (broken m) c.args.w (λ u. had ts u c.args.p c' m) (λ a b. omega arith)) (refuses refl))
