-- A row enters the objects.
use mathlib.Core.Path.{sym}
use borrow.Author.Tests.{le-leb, lt-leb, lt-ltb, le-ltb}
use Rattle.format.specs.Decide.{entered}
use Rattle.decide.proofs.Refusals.{stops}
use Rattle.decide.proofs.entered.Goals as goal

pub returns-then-c-row : goal.returns-then-c-row
unfolding entered
returns-then-c-row c = sym (rw (le-leb _ _ c.if-c-row.true, stops Unit c.lost.ensures))

pub returns-then-objects-used : goal.returns-then-objects-used
unfolding entered
returns-then-objects-used c = sym (rw (lt-leb _ _ c.if-c-row.false, lt-ltb _ _ c.if-objects-used.true, stops Unit c.lost-then-objects-used.ensures))

pub returns-then-objects-used-2 : goal.returns-then-objects-used-2
unfolding entered
returns-then-objects-used-2 c = sym (rw (
  lt-leb _ _ c.if-c-row.false,
  le-ltb _ _ c.if-objects-used.false,
  le-leb _ _
      c.if-objects-used-2.true,
  stops Unit c.refuse.ensures,
))

pub returns : goal.returns
unfolding entered
returns c = sym (rw (lt-leb _ _ c.if-c-row.false, le-ltb _ _ c.if-objects-used.false, lt-leb _ _ c.if-objects-used-2.false))
