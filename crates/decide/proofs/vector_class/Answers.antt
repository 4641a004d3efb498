-- With a mark, or none.
use mathlib.Core.Path.{sym}
use Rattle.format.specs.Decide.{vector_class}
use Rattle.decide.proofs.vector_class.Goals as goal

pub returns-then-star : goal.returns-then-star
unfolding vector_class
returns-then-star c = sym (rw (c.if-star.true, sym c.classed.ensures))

pub returns : goal.returns
unfolding vector_class
returns c = sym (rw (c.if-star.false, sym c.classed-2.ensures))
