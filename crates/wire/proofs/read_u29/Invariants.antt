use mathlib.Core.Path.{◌≡◌}
use lib.ListN.{drop}
use Rattle.wire.specs.U29.{rest_of}
use Rattle.wire.proofs.read_u29.Given as goal

abbrev pub invariant-loop-p : goal.invariant-loop-p
invariant-loop-p l = rest_of 3 0 (drop l.at l.src) l.at ≡ rest_of l.left l.n (drop l.p l.src) l.p
