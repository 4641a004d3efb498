-- Two numbers in their places.
use native.Mathlib.Omega.{arith}
use mathlib.Core.Path.{◌≡◌}
use Prim.Native.Nat.{suc, ◌+◌, ◌*◌}
use lib.ListN.{length-set}
use Rattle.decide.proofs.put_span.Goals as goal

pub bounds-table-i-2 : goal.bounds-table-i-2
bounds-table-i-2 c = simp length-set (omega arith)

pub returns : goal.returns
returns c = let e : c.args.i * 2 + 1 ≡ suc (c.args.i * 2) = omega arith in rw e
