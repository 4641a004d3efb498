-- A byte in its place.
use native.Mathlib.Omega.{arith}
use mathlib.Core.Path.{sym, ◌∙◌}
use borrow.Author.Tests.{le-leb, lt-leb, lt-ltb, le-ltb}
use Rattle.format.specs.Decide.{stored}
use Rattle.decide.proofs.Refusals.{stops}
use Rattle.decide.proofs.Room.{within}
use Rattle.decide.proofs.stored.Goals as goal

pub returns-then-store-c : goal.returns-then-store-c
unfolding stored
returns-then-store-c c = sym (rw (lt-ltb _ _ c.if-store-c.true, stops Unit c.lost.ensures))

pub returns-then-s-n : goal.returns-then-s-n
unfolding stored
returns-then-s-n c = sym (rw (le-ltb _ _ c.if-store-c.false, le-leb _ _ c.if-s-n.true, stops Unit c.lost-then-s-n.ensures))

pub overflow_add-store-then-fits : goal.overflow_add-store-then-fits
overflow_add-store-then-fits c = omega (
  arith,
  within c.args.s.begin
      c.args.s.size
      c.args.c.store c.fits.ensures
      c.if-fits.true,
)

pub bounds-store-s : goal.bounds-store-s
bounds-store-s c = omega (
  arith,
  within c.args.s.begin
      c.args.s.size
      c.args.c.store c.fits.ensures
      c.if-fits.true,
)

pub returns-then-fits : goal.returns-then-fits
unfolding stored
returns-then-fits c = sym (rw (
  le-ltb _ _ c.if-store-c.false,
  lt-leb _ _
      c.if-s-n.false,
  sym c.fits.ensures ∙ c.if-fits.true,
))

pub returns : goal.returns
unfolding stored
returns c = sym (rw (
  le-ltb _ _ c.if-store-c.false,
  lt-leb _ _ c.if-s-n.false,
  sym
      c.fits.ensures ∙ c.if-fits.false,
  stops Unit c.lost-2.ensures,
))
