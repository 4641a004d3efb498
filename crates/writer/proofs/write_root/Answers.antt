use borrow.Author.Rules.{rules}
use mathlib.Core.Path.{refl}
use Rattle.rows.specs.Memory.{open_limit}
use Rattle.writer.proofs.Outcomes as outcomes
use Rattle.writer.proofs.write_root.Goals as goal

pub returns-in-Err : goal.returns-in-Err
unfolding open_limit
returns-in-Err c = outcomes.measure_not _ _ _ c.requires c.in-Err.ensures.runs c.refusal.ensures (search rules)

pub returns : goal.returns
unfolding open_limit
returns c =
    outcomes.written_is _ _ _ c.requires c.in_default.ensures.runs refl refl c.in_default.ensures.same.table c.value-2.ensures.runs (search rules)
