-- The span, and the end.
use Rattle.parts.specs.Heads.{last_body}
use Rattle.scan.proofs.Laws.{then, fails, out-err}
use Rattle.parts.proofs.shown.Goals as goal

pub returns-in_err-bodied-clause-reads : goal.returns-in_err-bodied-clause-reads
unfolding last_body
returns-in_err-bodied-clause-reads c = out-err c.from_residual.ensures (fails _ _ c.in_err-bodied.ensures.reads)

pub returns-clause-reads : goal.returns-clause-reads
unfolding last_body
returns-clause-reads c = then _ _ c.in_ok-bodied.ensures.reads c.closed.ensures.reads
