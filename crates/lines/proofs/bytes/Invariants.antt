use Rattle.std.proofs.Common.{length, ◌-◌}
use Rattle.lines.proofs.Fill.{Putting}
use Rattle.lines.proofs.bytes.Given as goal

-- the bytes so far were put, and the digits from p on make the rest
abbrev pub invariant-loop-high : goal.invariant-loop-high
invariant-loop-high l = Putting l.line l.at l.initial.out l.out l.n l.p

abbrev pub decreases-loop-high : goal.decreases-loop-high
decreases-loop-high l = length l.line - l.p
