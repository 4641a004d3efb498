-- One byte, and which.
use native.Mathlib.Omega.{arith}
use mathlib.Core.Path.{sym, ◌∙◌}
use borrow.Author.Tests.{eq-eqb, ne_eqb, lt-ltb, le-ltb}
use mathlib.Core.Bool.{Bool}
use Rattle.format.specs.Decide.{starred}
use Rattle.decide.proofs.Refusals.{stops}
use Rattle.decide.proofs.Room.{within}
use Rattle.decide.proofs.starred.Goals as goal

pub returns-then-s-ne1 : goal.returns-then-s-ne1
unfolding starred
returns-then-s-ne1 c = sym (rw (ne_eqb _ _ c.if-s-ne1.true))

pub returns-then-store-c : goal.returns-then-store-c
unfolding starred
returns-then-store-c c = sym (rw (eq-eqb _ _ c.if-s-ne1.false, lt-ltb _ _ c.if-store-c.true, stops Bool c.lost.ensures))

pub bounds-store-begin : goal.bounds-store-begin
bounds-store-begin c = omega (
  arith,
  within c.args.s.begin
      c.args.s.size
      c.args.c.store c.fits.ensures c.if-fits.true,
)

pub returns-then-fits : goal.returns-then-fits
unfolding starred
returns-then-fits c = sym (rw (
  eq-eqb _ _ c.if-s-ne1.false,
  le-ltb _ _ c.if-store-c.false,
  sym
      c.fits.ensures ∙ c.if-fits.true,
))

pub returns : goal.returns
unfolding starred
returns c = sym (rw (
  eq-eqb _ _ c.if-s-ne1.false,
  le-ltb _ _ c.if-store-c.false,
  sym
      c.fits.ensures ∙ c.if-fits.false,
  stops Bool c.lost-2.ensures,
))
