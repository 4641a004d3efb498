use mathlib.Core.Path.{◌≡◌}
use Prim.Native.Nat.{◌-◌}
use Rattle.format.specs.Unfold.{after}
use Rattle.writer.proofs.row_after.Given as goal

abbrev pub invariant-loop : goal.invariant-loop
invariant-loop l = after l.table.rows.now l.row (l.n - l.counter) ≡ after l.table.rows.now l.first l.n
