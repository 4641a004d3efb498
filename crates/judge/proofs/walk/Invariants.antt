use Rattle.std.proofs.Common.{◌≡◌, ◌-◌}
use Rattle.judge.specs.Pass.{walk, walk_of}
use Rattle.judge.proofs.walk.Given as goal

abbrev pub invariant-loop-j : goal.invariant-loop-j
invariant-loop-j l = walk l.table.rows.now l.kind l.count l.stop l.k l.j (l.n - l.j) l.least ≡ walk_of l.table.rows.now l.i l.fn.least
