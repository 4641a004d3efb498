-- How far each function of the cycle is from its end, and what is left of each loop.
use Prim.Native.Nat.{◌+◌, ◌*◌, ◌-◌, ◌^◌, ◌<◌}
use Rattle.rows.specs.Memory.{no_key, col_count}
use Rattle.format.specs.Reading.{value, couple, entries, pairs}
use Rattle.parts.specs.Heads.{sealed_member}
use Rattle.scan.proofs.Laws.{Left}
use Rattle.values.proofs.Loops.{bytes_left}
use Rattle.values.proofs.+reading.Given as goal

abbrev pub decreases-array : goal.decreases-array
decreases-array l = l.left * 7 + 3

abbrev pub decreases-couples : goal.decreases-couples
decreases-couples l = l.left * 7 + 1

abbrev pub decreases-dictionary : goal.decreases-dictionary
decreases-dictionary l = l.left * 7 + 3

abbrev pub decreases-dynamics : goal.decreases-dynamics
decreases-dynamics l = l.left * 7 + 2

abbrev pub decreases-items : goal.decreases-items
decreases-items l = l.left * 7 + 1

abbrev pub decreases-marked : goal.decreases-marked
decreases-marked l = l.left * 7 + 6

abbrev pub decreases-new_value : goal.decreases-new_value
decreases-new_value l = l.left * 7 + 4

abbrev pub decreases-object : goal.decreases-object
decreases-object l = l.left * 7 + 4

abbrev pub decreases-object_members : goal.decreases-object_members
decreases-object_members l = l.left * 7 + 3

abbrev pub decreases-pairs : goal.decreases-pairs
decreases-pairs l = l.left * 7 + 1

abbrev pub decreases-sealed : goal.decreases-sealed
decreases-sealed l = l.left * 7 + 1

abbrev pub decreases-sized_value : goal.decreases-sized_value
decreases-sized_value l = l.left * 7 + 5

abbrev pub decreases-nested : goal.decreases-nested
decreases-nested l = l.left * 7

abbrev pub decreases-vector : goal.decreases-vector
decreases-vector l = l.left * 7 + 3

abbrev pub invariant-couples-loop-i : goal.invariant-couples-loop-i
invariant-couples-loop-i l = Left (entries (couple (value l.left) l.row) l.row col_count (l.n - l.i) l.i) (entries (couple (value l.left) l.row) l.row col_count l.n 0) l.initial.reading l.reading

abbrev pub invariant-items-loop-i : goal.invariant-items-loop-i
invariant-items-loop-i l = Left (entries (λ done. value l.left no_key) l.row l.col (l.n - l.i) l.i) (entries (λ done. value l.left no_key) l.row l.col l.n 0) l.initial.reading l.reading

abbrev pub invariant-sealed-loop-i : goal.invariant-sealed-loop-i
invariant-sealed-loop-i l = (Left (entries (sealed_member (value l.left) l.t) l.row col_count (l.t.count - l.i) l.i) (entries (sealed_member (value l.left) l.t) l.row col_count l.t.count 0) l.initial.reading l.reading) × (l.t.first + l.i < 2 ^ 64)

abbrev pub invariant-pairs-loop-s : goal.invariant-pairs-loop-s
invariant-pairs-loop-s l = Left (pairs (value l.left) l.row l.col l.done) (pairs (value l.left) l.row l.col 0) l.initial.reading l.reading

abbrev pub decreases-pairs-loop-s : goal.decreases-pairs-loop-s
decreases-pairs-loop-s l = bytes_left l.reading
