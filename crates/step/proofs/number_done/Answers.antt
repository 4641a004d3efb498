-- A double's bits or a date's decide, and then those around.
use Rattle.format.specs.Step.{pop}
use Rattle.resume.proofs.Moves.{as_is, stopped_by, after_it}
use Rattle.step.proofs.Numbers.{double-done, date-done}
use Rattle.step.proofs.number_done.Goals as goal
use Rattle.step.proofs.number_done.Goals.{then-w-eq-DOUBLE+in_ok-numbered, else-w-eq-DOUBLE+in_ok-date_end}

pub returns-in_err-numbered-clause-steps : goal.returns-in_err-numbered-clause-steps
returns-in_err-numbered-clause-steps c =
    as_is (double-done c.args.w c.args.bits c.if-w-eq-DOUBLE.true) (stopped_by (λ ts x. pop ts) c.in_err-numbered.ensures.decided c.from_residual.ensures)

pub returns-in_err-date_end-clause-steps : goal.returns-in_err-date_end-clause-steps
returns-in_err-date_end-clause-steps c =
    as_is (date-done c.args.w c.args.bits c.requires.number c.if-w-eq-DOUBLE.false)
    (stopped_by (λ ts x. pop ts) c.in_err-date_end.ensures.decided c.from_residual-in_err-date_end.ensures)

pub returns-clause-steps : goal.returns-clause-steps
returns-clause-steps c = elim c.if-w-eq-DOUBLE.branch [
  | then-w-eq-DOUBLE+in_ok-numbered w ↦
      as_is (double-done c.args.w c.args.bits w.if-w-eq-DOUBLE.true) (after_it (λ ts x. pop ts) w.in_ok-numbered.ensures.decided (rw w.f-is at c.pop.ensures.steps))
  | else-w-eq-DOUBLE+in_ok-date_end w ↦
      as_is (date-done c.args.w c.args.bits c.requires.number w.if-w-eq-DOUBLE.false)
      (after_it (λ ts x. pop ts) w.in_ok-date_end.ensures.decided (rw w.f-is at c.pop.ensures.steps))
]
