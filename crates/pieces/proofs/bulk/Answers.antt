-- As many as the least allows.
use native.Mathlib.Omega.{arith}
use Rattle.rows.specs.Memory.{message_limit}
use Rattle.pieces.proofs.bulk.Goals as goal

pub overflow_sub-c : goal.overflow_sub-c
unfolding message_limit
overflow_sub-c c = omega (arith, c.requires)

pub returns : goal.returns
unfolding message_limit
returns c = λ h. (
  omega (arith, c.if-w-lt-TEXT.false),
  omega (arith, c.min.ensures, c.min-2.ensures),
  omega (arith, c.min.ensures, c.min-2.ensures),
  omega (arith, c.min.ensures, c.min-2.ensures, c.requires),
)
