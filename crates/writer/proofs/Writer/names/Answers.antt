use Rattle.writer.proofs.Streams as streams
use Rattle.writer.proofs.Lists as lists
use Rattle.writer.proofs.Writer.names.Goals as goal

pub returns-in_err-key : goal.returns-in_err-key
returns-in_err-key c =
    λ f. streams.leaves _ c.from_residual.ensures.1 (lists.name_stops f _ _ _ (c.loop.invariant f) c.loop-test.true c.in_err-key.ensures)

pub loop-preserved : goal.loop-preserved
loop-preserved c = λ f. lists.names_more f _ _ _ (c.loop.invariant f) c.loop-test.true c.in_ok-key.ensures c.column-row.ensures

pub returns : goal.returns
returns c = λ f. lists.names-end f _ _ _ (c.loop.invariant f) c.loop-test.false
