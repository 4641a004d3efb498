use Rattle.writer.proofs.Columns as columns
use Rattle.writer.proofs.row_after.Goals as goal

pub loop-preserved : goal.loop-preserved
loop-preserved c = columns.after_one _ _ _ _ c.loop.invariant c.loop-test.true c.column-row.ensures

pub returns : goal.returns
returns c = columns.after_none _ _ _ _ c.loop.invariant c.loop-test.false
