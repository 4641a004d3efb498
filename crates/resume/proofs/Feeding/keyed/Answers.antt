-- An empty key, or one more pair.
use Rattle.resume.proofs.Moves.{as_is}
use Rattle.resume.proofs.Amounts.{one-key, no-dynamic, no-pair}
use Rattle.resume.proofs.Feeding.keyed.Goals as goal

pub returns-then-p-ne0-clause-steps : goal.returns-then-p-ne0-clause-steps
returns-then-p-ne0-clause-steps c = λ g e. as_is (λ ts c' m. one-key _ _ _ g _ _ c.if-p-ne0.true) (rw (e, c.from.ensures) at c.open_next.ensures.goes.steps)

pub returns-then-f-eq-DYNAMICS-clause-steps : goal.returns-then-f-eq-DYNAMICS-clause-steps
returns-then-f-eq-DYNAMICS-clause-steps c = λ g e. as_is (λ ts c' m. no-dynamic _ _ _ g _ _ _ e c.if-f-eq-DYNAMICS.true c.if-p-ne0.false) c.close.ensures.steps

pub returns-clause-steps : goal.returns-clause-steps
returns-clause-steps c = λ g e. as_is (λ ts c' m. no-pair _ _ _ g _ _ _ e c.if-f-eq-DYNAMICS.false c.if-p-ne0.false) c.onward.ensures.steps
