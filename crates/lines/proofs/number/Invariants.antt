use Rattle.std.proofs.Common.{length, ◌-◌}
use Rattle.lines.proofs.Numbers.{Counted}
use Rattle.lines.proofs.number.Given as goal

-- the digits so far gave n, and the digits from p on give the rest
abbrev pub invariant-loop-d : goal.invariant-loop-d
invariant-loop-d l = Counted l.line l.at l.n l.p

abbrev pub decreases-loop-d : goal.decreases-loop-d
decreases-loop-d l = length l.line - l.p
