-- The steps, and the cursor back where they refuse.
use Rattle.scan.proofs.Laws.{settled}
use Rattle.parts.proofs.size_head.Goals as goal

pub returns-clause-reads : goal.returns-clause-reads
returns-clause-reads c = (settled _ c.size_head_steps-a.ensures.reads.0 c.settled.ensures.answer c.settled.ensures.spares c.settled.ensures.same c.settled.ensures.cursor, rw c.settled.ensures.answer c.size_head_steps-a.ensures.reads.1)
