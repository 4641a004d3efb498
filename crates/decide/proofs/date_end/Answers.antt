-- The bits of a date.
use mathlib.Core.Path.{sym, ◌∙◌}
use borrow.Author.Tests.{not-true, not-false}
use Rattle.wire.specs.Date.{refused_date}
use Rattle.format.specs.Decide.{date_end}
use Rattle.decide.proofs.Refusals.{stops}
use Rattle.decide.proofs.date_end.Goals as goal

pub returns-then-not-row_used : goal.returns-then-not-row_used
unfolding date_end
returns-then-not-row_used c = sym (rw (sym c.row_used.ensures ∙ c.if-not-row_used.true, stops Unit c.lost.ensures))

pub returns-then-is_date : goal.returns-then-is_date
unfolding date_end
returns-then-is_date c = sym (rw (
  sym c.row_used.ensures ∙ c.if-not-row_used.false,
  not-true (refused_date c.args.bits) (sym c.is_date.ensures ∙
      c.if-is_date.true),
  sym c.numbered.ensures,
))

pub returns : goal.returns
unfolding date_end
returns c = sym (rw (
  sym c.row_used.ensures ∙ c.if-not-row_used.false,
  not-false
      (refused_date c.args.bits) (sym c.is_date.ensures ∙ c.if-is_date.false),
  stops Unit c.refuse.ensures,
))
