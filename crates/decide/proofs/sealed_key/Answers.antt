-- A name that is there and used.
use mathlib.Core.Path.{sym, ◌∙◌}
use borrow.Author.Tests.{le-leb, lt-leb, lt-ltb, le-ltb}
use Rattle.rows.specs.declared.Key.{Key}
use Rattle.format.specs.Decide.{sealed_key}
use Rattle.decide.proofs.Refusals.{stops}
use Rattle.decide.proofs.sealed_key.Goals as goal

pub returns-then-names-c : goal.returns-then-names-c
unfolding sealed_key
returns-then-names-c c = sym (rw (lt-ltb _ _ c.if-names-c.true, stops Key c.lost.ensures))

pub returns-then-c-i : goal.returns-then-c-i
unfolding sealed_key
returns-then-c-i c = sym (rw (le-ltb _ _ c.if-names-c.false, le-leb _ _ c.if-c-i.true, stops Key c.lost-then-c-i.ensures))

pub returns-then-fits : goal.returns-then-fits
unfolding sealed_key
returns-then-fits c = sym (rw (
  le-ltb _ _ c.if-names-c.false,
  lt-leb _ _
      c.if-c-i.false,
  sym c.fits.ensures ∙ c.if-fits.true,
))

pub returns : goal.returns
unfolding sealed_key
returns c = sym (rw (
  le-ltb _ _ c.if-names-c.false,
  lt-leb _ _ c.if-c-i.false,
  sym c.fits.ensures ∙ c.if-fits.false,
  stops Key
      c.lost-2.ensures,
))
