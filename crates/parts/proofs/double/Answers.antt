-- What is read, and what its row shows.
use Rattle.format.specs.Reading as r
use Rattle.scan.proofs.Laws.{then, fails, settled, out-err}
use Rattle.parts.proofs.double.Goals as goal

pub returns-in_err-bits-clause-reads : goal.returns-in_err-bits-clause-reads
unfolding r.marked
returns-in_err-bits-clause-reads c = λ value. out-err c.from_residual.ensures (fails _ _ c.in_err-bits.ensures.reads)

pub returns-clause-reads : goal.returns-clause-reads
unfolding r.marked
returns-clause-reads c = λ value. settled _ (then _ _ c.in_ok-bits.ensures.reads c.numbered-a.ensures.reads) c.settled.ensures.answer c.settled.ensures.spares c.settled.ensures.same c.settled.ensures.cursor
