-- The first loan that is at fault, by the tests in their order.
use mathlib.Core.Path.{sym, ◌∙◌}
use Rattle.rows.specs.Memory.{loan_fault}
use Rattle.rows.proofs.lent.Lent.fault.Goals as goal

pub returns-then-faulty : goal.returns-then-faulty
unfolding loan_fault
returns-then-faulty c = sym (rw (sym c.faulty.ensures ∙ c.if-faulty.true))

pub returns-then-faulty-2 : goal.returns-then-faulty-2
unfolding loan_fault
returns-then-faulty-2 c = sym (rw (
  sym c.faulty.ensures ∙ c.if-faulty.false,
  sym c.faulty-2.ensures ∙
      c.if-faulty-2.true,
))

pub returns-then-faulty-3 : goal.returns-then-faulty-3
unfolding loan_fault
returns-then-faulty-3 c = sym (rw (
  sym c.faulty.ensures ∙ c.if-faulty.false,
  sym
      c.faulty-2.ensures ∙ c.if-faulty-2.false,
  sym c.faulty-3.ensures ∙ c.if-faulty-3.true,
))

pub returns-then-faulty-4 : goal.returns-then-faulty-4
unfolding loan_fault
returns-then-faulty-4 c = sym (rw (
  sym c.faulty.ensures ∙ c.if-faulty.false,
  sym c.faulty-2.ensures ∙ c.if-faulty-2.false,
  sym
      c.faulty-3.ensures ∙ c.if-faulty-3.false,
  sym c.faulty-4.ensures ∙ c.if-faulty-4.true,
))

pub returns-then-faulty-5 : goal.returns-then-faulty-5
unfolding loan_fault
returns-then-faulty-5 c = sym (rw (
  sym c.faulty.ensures ∙ c.if-faulty.false,
  sym c.faulty-2.ensures ∙ c.if-faulty-2.false,
  sym c.faulty-3.ensures ∙
      c.if-faulty-3.false,
  sym c.faulty-4.ensures ∙ c.if-faulty-4.false,
  sym c.faulty-5.ensures ∙ c.if-faulty-5.true,
))

pub returns-then-faulty-6 : goal.returns-then-faulty-6
unfolding loan_fault
returns-then-faulty-6 c = sym (rw (
  sym c.faulty.ensures ∙ c.if-faulty.false,
  sym c.faulty-2.ensures ∙ c.if-faulty-2.false,
  sym c.faulty-3.ensures ∙ c.if-faulty-3.false,
  sym c.faulty-4.ensures ∙ c.if-faulty-4.false,
  sym c.faulty-5.ensures ∙
      c.if-faulty-5.false,
  sym c.faulty-6.ensures ∙ c.if-faulty-6.true,
))

pub returns : goal.returns
unfolding loan_fault
returns c = sym (rw (
  sym c.faulty.ensures ∙ c.if-faulty.false,
  sym c.faulty-2.ensures ∙ c.if-faulty-2.false,
  sym c.faulty-3.ensures ∙ c.if-faulty-3.false,
  sym c.faulty-4.ensures ∙ c.if-faulty-4.false,
  sym c.faulty-5.ensures ∙
      c.if-faulty-5.false,
  sym c.faulty-6.ensures ∙ c.if-faulty-6.false,
))
