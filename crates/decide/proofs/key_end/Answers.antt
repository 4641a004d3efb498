-- A pair's key is finished in a used row.
use mathlib.Core.Path.{sym, ◌∙◌}
use borrow.Author.Tests.{le-leb, lt-leb}
use Rattle.format.specs.Decide.{key_end}
use Rattle.decide.proofs.Refusals.{stops}
use Rattle.decide.proofs.key_end.Goals as goal

pub returns-then-c-done : goal.returns-then-c-done
unfolding key_end
returns-then-c-done c = sym (rw (le-leb _ _ c.if-c-done.true, stops Unit c.lost.ensures))

pub returns-then-row_used : goal.returns-then-row_used
unfolding key_end
returns-then-row_used c = sym (rw (lt-leb _ _ c.if-c-done.false, sym c.row_used.ensures ∙ c.if-row_used.true))

pub returns : goal.returns
unfolding key_end
returns c = sym (rw (
  lt-leb _ _ c.if-c-done.false,
  sym c.row_used.ensures ∙ c.if-row_used.false,
  stops
      Unit c.lost-2.ensures,
))
