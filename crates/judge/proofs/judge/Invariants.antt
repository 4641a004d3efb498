use Rattle.std.proofs.Common.{◌≡◌, ◌-◌}
use Rattle.format.specs.RowTest.{tested}
use Rattle.judge.specs.Pass.{Valid, pass}
use Rattle.judge.proofs.judge.Given as goal

abbrev pub invariant-loop-i : goal.invariant-loop-i
invariant-loop-i l =
    record {
      rest : pass l.table.rows.now l.table.store.now l.i (l.n - l.i) l.least ≡ tested l.table.rows.now l.table.store.now;
      valid : Valid l.table.store.now l.known;
    }
