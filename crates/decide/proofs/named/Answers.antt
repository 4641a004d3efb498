-- A name enters the names.
use mathlib.Core.Path.{sym}
use borrow.Author.Tests.{le-leb, lt-leb, lt-ltb, le-ltb}
use Rattle.rows.specs.declared.Span.{Span}
use Rattle.format.specs.Decide.{named}
use Rattle.decide.proofs.Refusals.{stops}
use Rattle.decide.proofs.named.Goals as goal

pub returns-then-names-used : goal.returns-then-names-used
unfolding named
returns-then-names-used c = sym (rw (lt-ltb _ _ c.if-names-used.true, stops Span c.lost.ensures))

pub returns-then-names-used-2 : goal.returns-then-names-used-2
unfolding named
returns-then-names-used-2 c = sym (rw (le-ltb _ _ c.if-names-used.false, le-leb _ _ c.if-names-used-2.true, stops Span c.refuse.ensures))

pub returns : goal.returns
unfolding named
returns c = sym (rw (
  le-ltb _ _ c.if-names-used.false,
  lt-leb _ _ c.if-names-used-2.false,
  c.put_span.ensures,
))
