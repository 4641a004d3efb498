-- A value within none, and the cursor back where it is refused.
use Rattle.scan.proofs.Laws.{settled}
use Rattle.values.proofs.value.Goals as goal

pub returns-clause-reads : goal.returns-clause-reads
returns-clause-reads c = settled _ c.nested-a.ensures c.settled.ensures.answer c.settled.ensures.spares c.settled.ensures.same c.settled.ensures.cursor
