-- By what follows the marker.
use mathlib.Core.Path.{sym, ap, ◌∙◌}
use Rattle.decide.specs.Outcomes.{kind_in}
use Rattle.format.specs.Step.{begun}
use Rattle.format.specs.Numbers.{work_of, use_work}
use Rattle.resume.proofs.Moves.{as_is, waits}
use Rattle.step.proofs.begun.Goals as goal
use Rattle.step.proofs.begun.Goals.{in-Integer, in-String, in-Object, in-Sized}

pub returns-in-Leaf-clause-steps : goal.returns-in-Leaf-clause-steps
unfolding begun
returns-in-Leaf-clause-steps c = as_is (λ ts k m. ap (λ x. begun ts c.args.row x k m) (sym c.kind_of.ensures ∙ ap kind_in c.in-Leaf.is)) c.pop.ensures.steps

pub returns-in-Double-clause-steps : goal.returns-in-Double-clause-steps
unfolding begun work_of
returns-in-Double-clause-steps c = as_is (λ ts k m. ap (λ x. begun ts c.args.row x k m) (sym c.kind_of.ensures ∙ ap kind_in c.in-Double.is)) (waits c.row_work-double.ensures)

pub returns-clause-steps : goal.returns-clause-steps
unfolding begun work_of use_work
returns-clause-steps c = elim c.match-kind_of.branch [
  | in-Integer w ↦
      as_is (λ ts k m. ap (λ x. begun ts c.args.row x k m) (sym c.kind_of.ensures ∙ ap kind_in w.in-Integer.is)) (waits (rw (c.row_work.ensures, w.purpose-is)))
  | in-String w ↦
      as_is (λ ts k m. ap (λ x. begun ts c.args.row x k m) (sym c.kind_of.ensures ∙ ap kind_in w.in-String.is)) (waits (rw (c.row_work.ensures, w.purpose-is)))
  | in-Object w ↦
      as_is (λ ts k m. ap (λ x. begun ts c.args.row x k m) (sym c.kind_of.ensures ∙ ap kind_in w.in-Object.is)) (waits (rw (c.row_work.ensures, w.purpose-is)))
  | in-Sized w ↦
      as_is (λ ts k m. ap (λ x. begun ts c.args.row x k m) (sym c.kind_of.ensures ∙ ap kind_in w.in-Sized.is))
      (waits (rw (c.row_work.ensures, w.purpose-is, w.purpose_of-purpose.ensures)))
]
