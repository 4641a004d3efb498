-- The loans, the rows, and the tree.
use mathlib.Core.Path.{sym, ◌∙◌}
use Rattle.writer.proofs.Outcomes as outcomes
use Rattle.writer.proofs.write.Goals as goal

pub returns-in-Some : goal.returns-in-Some
returns-in-Some c = outcomes.lent-not _ _ _ c.in-Some.ensures

pub returns-in-Err : goal.returns-in-Err
returns-in-Err c = outcomes.rows-not _ _ _ (outcomes.lent-well _ (sym c.in_default.is ∙ c.fault.ensures)) (sym c.in-Err.ensures)
