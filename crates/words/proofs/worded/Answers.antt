-- An integer ends; else the answer of `wording`, and what a refusal puts back.
use Rattle.format.specs.Step.{pop, worded}
use Rattle.resume.proofs.Moves.{stopped_by, after_it, puts_back}
use Rattle.words.proofs.worded.Goals as goal

pub returns-in_err-integer_end-clause-steps : goal.returns-in_err-integer_end-clause-steps
unfolding worded
returns-in_err-integer_end-clause-steps c = rw c.if-w-eq-INTEGER.true (stopped_by (λ ts y. pop ts) c.in_err-integer_end.ensures.decided c.from_residual.ensures)

pub returns-then-w-eq-INTEGER-clause-steps : goal.returns-then-w-eq-INTEGER-clause-steps
unfolding worded
returns-then-w-eq-INTEGER-clause-steps c = rw c.if-w-eq-INTEGER.true (after_it (λ ts y. pop ts) c.in_ok-integer_end.ensures.decided c.pop.ensures.steps)

pub returns-clause-steps : goal.returns-clause-steps
returns-clause-steps c = puts_back _ _ c.put_back.ensures.answer c.put_back.ensures.back c.wording-a.ensures.steps
