-- A valid text enters the strings.
use mathlib.Core.Path.{sym}
use borrow.Author.Tests.{le-leb, lt-leb, lt-ltb, le-ltb}
use Rattle.rows.specs.declared.Span.{Span}
use Rattle.format.specs.Decide.{text_end}
use Rattle.decide.proofs.Refusals.{stops}
use Rattle.decide.proofs.text_end.Goals as goal

pub returns-then-strings-used : goal.returns-then-strings-used
unfolding text_end
returns-then-strings-used c = sym (rw (lt-ltb _ _ c.if-strings-used.true, stops Span c.lost.ensures))

pub returns-then-not-valid : goal.returns-then-not-valid
unfolding text_end
returns-then-not-valid c = sym (rw (
  le-ltb _ _ c.if-strings-used.false,
  c.if-not-valid.true,
  stops Span c.refuse.ensures,
))

pub returns-then-strings-used-2 : goal.returns-then-strings-used-2
unfolding text_end
returns-then-strings-used-2 c = sym (rw (
  le-ltb _ _ c.if-strings-used.false,
  c.if-not-valid.false,
  le-leb _ _ c.if-strings-used-2.true,
  stops Span c.refuse-then-strings-used-2.ensures,
))

pub returns : goal.returns
unfolding text_end
returns c = sym (rw (
  le-ltb _ _ c.if-strings-used.false,
  c.if-not-valid.false,
  lt-leb _ _ c.if-strings-used-2.false,
  c.put_span.ensures,
))
