-- Room in a store of a length.
use native.Mathlib.Omega.{arith}
use mathlib.Core.Path.{sym}
use borrow.Author.Tests.{lt-ltb, le-ltb}
use Rattle.rows.specs.declared.Span.{Span}
use Rattle.format.specs.Decide.{reserved}
use Rattle.decide.proofs.Refusals.{stops}
use Rattle.decide.proofs.Room.{within, fits-room, fits-full}
use Rattle.decide.proofs.reserved.Goals as goal

pub returns-then-len-used : goal.returns-then-len-used
unfolding reserved
returns-then-len-used c = λ B l. sym (rw (l, lt-ltb _ _ c.if-len-used.true, stops Span c.lost.ensures))

pub overflow_add-after : goal.overflow_add-after
overflow_add-after c = omega (
  arith,
  within c.args.c.store c.args.n
      c.args.len c.fits.ensures c.if-fits.true,
)

pub returns-then-fits : goal.returns-then-fits
unfolding reserved
returns-then-fits c = λ B l. sym (rw (
  l,
  le-ltb _ _ c.if-len-used.false,
  fits-room c.args.c.store
      c.args.n c.args.len c.fits.ensures c.if-fits.true,
))

pub returns : goal.returns
unfolding reserved
returns c = λ B l. sym (rw (
  l,
  le-ltb _ _ c.if-len-used.false,
  fits-full c.args.c.store
      c.args.n c.args.len c.fits.ensures
      c.if-fits.false,
  stops Span c.refuse.ensures,
))
