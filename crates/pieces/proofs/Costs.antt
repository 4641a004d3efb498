-- None takes more than one byte.
use mathlib.Core.Bool.{◌||◌}
use Prim.Native.Nat.{◌≤◌}
use native.Mathlib.Omega.{arith}
use lib.Dec.{eqb}
use Rattle.format.proofs.Tests.{on_bool}
use Rattle.format.specs.Refusals as refusals
use Rattle.resume.specs.Steps.{Turn, Wait, Finished, Refused}
use Rattle.pieces.specs.States.{cost_of}

pub cost-most : (a : Turn) → cost_of a ≤ 1
cost-most (Wait w c depth) = omega arith
cost-most (Finished c) = omega arith
cost-most (Refused r) = on_bool (eqb r.number refusals.too_long || eqb r.number refusals.lost) (λ e. rw e (omega arith)) (λ e. rw e (omega arith))
