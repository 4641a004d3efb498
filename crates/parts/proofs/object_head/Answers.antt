-- The steps, and the cursor back where they refuse.
use Rattle.scan.proofs.Laws.{settled}
use Rattle.parts.proofs.object_head.Goals as goal

pub returns-clause-reads : goal.returns-clause-reads
returns-clause-reads c = settled _ c.object_head_steps-a.ensures c.settled.ensures.answer c.settled.ensures.spares c.settled.ensures.same c.settled.ensures.cursor
