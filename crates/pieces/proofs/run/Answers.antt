-- No byte; none that is taken; or the first and those behind it, settled.
use mathlib.Core.Path.{sym, ◌∙◌}
use Rattle.std.proofs.Common.{rules}
use Rattle.rows.specs.Lent.{memory_of}
use Rattle.pieces.proofs.Drives.{ran-is, none_runs, ended-runs, settled_run}
use Rattle.pieces.proofs.run.Goals as goal
use Rattle.pieces.proofs.run.Goals.{then-is_empty-via-then-is_empty, then-is_empty-via-else-is_empty+then-has_ended}

pub returns-then-is_empty-clause-ran : goal.returns-then-is_empty-clause-ran
returns-then-is_empty-clause-ran c = elim c.then-is_empty.branch [
  | then-is_empty-via-then-is_empty w ↦ ran-is (none_runs c.args.h c.args.frames.now (memory_of c.args.loans.now) c.args.piece.now (search rules))
  | then-is_empty-via-else-is_empty+then-has_ended w ↦
      ran-is (ended-runs c.args.h c.args.frames.now (memory_of c.args.loans.now) c.args.piece.now (sym w.has_ended.ensures ∙ w.if-has_ended.true))
]

pub returns-clause-ran : goal.returns-clause-ran
returns-clause-ran c = settled_run _ _ _ _ _ _ _ _ (c.settle.ensures.settled _ _ _) c.head_after-head.ensures (search (rules, c.take-a.ensures.ran_all))
