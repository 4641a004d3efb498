-- With a mark, or none.
use mathlib.Core.Path.{sym}
use borrow.Author.Tests.{eq-eqb, ne_eqb}
use Rattle.format.specs.Decide.{object_class}
use Rattle.decide.proofs.object_class.Goals as goal

pub returns-then-t-eq0 : goal.returns-then-t-eq0
unfolding object_class
returns-then-t-eq0 c = sym (rw (eq-eqb _ _ c.if-t-eq0.true, sym c.classed.ensures))

pub returns : goal.returns
unfolding object_class
returns c = sym (rw (ne_eqb _ _ c.if-t-eq0.false, sym c.classed-2.ensures))
