-- A copy, and the text test or the count over it.
use native.Mathlib.Omega.{arith}
use Rattle.std.proofs.Common.{rules}
use Rattle.rows.specs.Memory.{message_limit}
use Rattle.rows.specs.Lent.{lent_of}
use Rattle.pieces.proofs.Fills.{fills-text, fills-raw}
use Rattle.pieces.proofs.fill.Goals as goal

pub overflow_add-f : goal.overflow_add-f
unfolding message_limit
overflow_add-f c = omega (arith, c.requires.place)

pub returns-then-w-eq-TEXT-clause-filled : goal.returns-then-w-eq-TEXT-clause-filled
unfolding lent_of
returns-then-w-eq-TEXT-clause-filled c = fills-text (search rules) c.if-w-eq-TEXT.true

pub returns-clause-filled : goal.returns-clause-filled
unfolding lent_of
returns-clause-filled c = fills-raw (search rules) c.if-w-eq-TEXT.false (c.requires.raw c.if-w-eq-TEXT.false) c.raw_grown.ensures.decided
