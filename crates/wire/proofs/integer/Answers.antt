-- The number of which the low 29 bits are the remainder: turned by half of the modulus, and back.
use native.Mathlib.Omega.{arith}
use Rattle.wire.proofs.Steps as steps
use Rattle.wire.proofs.integer.Goals as goal

pub overflow_cast-result : goal.overflow_cast-result
overflow_cast-result c = record { sfits = omega (arith, steps.turned_lt c.args.n) }

pub overflow_sub-result : goal.overflow_sub-result
overflow_sub-result c = steps.held (steps.integer-is c.args.n) (steps.integer-fits c.args.n)

pub returns : goal.returns
returns c = steps.kept (steps.integer-is c.args.n) (steps.integer-fits c.args.n)
