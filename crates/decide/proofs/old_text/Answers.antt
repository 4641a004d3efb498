-- A text that is there and used.
use mathlib.Core.Path.{sym, ◌∙◌}
use borrow.Author.Tests.{le-leb, lt-leb, lt-ltb, le-ltb}
use Rattle.rows.specs.declared.Span.{Span}
use Rattle.format.specs.Decide.{old_text}
use Rattle.decide.proofs.Refusals.{stops}
use Rattle.decide.proofs.old_text.Goals as goal

pub returns-then-strings-c : goal.returns-then-strings-c
unfolding old_text
returns-then-strings-c c = sym (rw (lt-ltb _ _ c.if-strings-c.true, stops Span c.lost.ensures))

pub returns-then-c-i : goal.returns-then-c-i
unfolding old_text
returns-then-c-i c = sym (rw (le-ltb _ _ c.if-strings-c.false, le-leb _ _ c.if-c-i.true, stops Span c.refuse.ensures))

pub returns-then-fits : goal.returns-then-fits
unfolding old_text
returns-then-fits c = sym (rw (
  le-ltb _ _ c.if-strings-c.false,
  lt-leb _ _
      c.if-c-i.false,
  sym c.fits.ensures ∙ c.if-fits.true,
))

pub returns : goal.returns
unfolding old_text
returns c = sym (rw (
  le-ltb _ _ c.if-strings-c.false,
  lt-leb _ _ c.if-c-i.false,
  sym c.fits.ensures ∙ c.if-fits.false,
  stops Span
      c.lost-2.ensures,
))
