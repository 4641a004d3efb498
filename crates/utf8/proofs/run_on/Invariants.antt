use mathlib.Core.Path.{◌≡◌}
use Prim.Native.Nat.{◌≤◌}
use lib.ListN.{drop}
use Rattle.utf8.specs.States.{text_broken, fold_of}
use Rattle.utf8.proofs.run_on.Given as goal

abbrev pub invariant-loop-b : goal.invariant-loop-b
invariant-loop-b l = (l.at ≤ text_broken) × (fold_of l.k l.rest ≡ fold_of l.at (drop l.b-index l.rest))
