-- The steps, and the cursor back where they refuse.
use Rattle.scan.proofs.Laws.{settled}
use Rattle.parts.proofs.string.Goals as goal

pub returns-clause-reads : goal.returns-clause-reads
returns-clause-reads c = λ value. settled _ (c.string_steps-a.ensures.reads value) c.settled.ensures.answer c.settled.ensures.spares c.settled.ensures.same c.settled.ensures.cursor
