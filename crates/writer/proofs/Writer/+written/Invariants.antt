use Prim.Native.Nat.{◌+◌, ◌*◌, ◌-◌}
use Rattle.writer.specs.Pieces.{members_at}
use Rattle.writer.proofs.Streams.{Rest}
use Rattle.writer.proofs.Writer.+written.Given as goal

abbrev pub decreases-array : goal.decreases-array
decreases-array l = l.left * 3 + 2

abbrev pub decreases-dictionary : goal.decreases-dictionary
decreases-dictionary l = l.left * 3 + 2

abbrev pub decreases-members : goal.decreases-members
decreases-members l = l.left * 3 + 1

abbrev pub decreases-object : goal.decreases-object
decreases-object l = l.left * 3 + 2

abbrev pub decreases-value : goal.decreases-value
decreases-value l = l.left * 3

abbrev pub decreases-vector : goal.decreases-vector
decreases-vector l = l.left * 3 + 2

abbrev pub invariant-members-loop : goal.invariant-members-loop
invariant-members-loop l = Rest l.initial.self l.self (members_at l.left l.keyed l.row (l.n - l.counter)) (members_at l.left l.keyed l.first l.n)
