-- The steps, and the cursor back where they refuse.
use Rattle.scan.proofs.Laws.{settled}
use Rattle.parts.proofs.vector_head.Goals as goal

pub returns-clause-reads : goal.returns-clause-reads
returns-clause-reads c = settled _ c.vector_head_steps-a.ensures.reads c.settled.ensures.answer c.settled.ensures.spares c.settled.ensures.same c.settled.ensures.cursor
