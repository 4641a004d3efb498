-- Room for a body, its bytes, and the row's end.
use Rattle.format.specs.Reading as r
use Rattle.scan.proofs.Laws.{then, fails, chosen, out-err}
use Rattle.scan.proofs.Reserves.{room-placed}
use Rattle.parts.proofs.bytes_steps.Goals as goal

pub returns-in_err-s-clause-reads : goal.returns-in_err-s-clause-reads
unfolding r.new_of
returns-in_err-s-clause-reads c = λ value. out-err c.from_residual.ensures (fails _ _ c.in_err-s.ensures.reads)

pub copied-requires : goal.copied-requires
copied-requires c = (room-placed _ _ _ _ _ _ _ _ _ _ _ _ _ c.in_ok-s.ensures.reads.read).inside

pub returns-in_err-copied-clause-reads : goal.returns-in_err-copied-clause-reads
unfolding r.new_of
returns-in_err-copied-clause-reads c = λ value. out-err c.from_residual-in_err-copied.ensures (then _ _ c.in_ok-s.ensures.reads (fails _ _ (chosen (r.filled _ _) (room-placed _ _ _ _ _ _ _ _ _ _ _ _ _ c.in_ok-s.ensures.reads.read).whole c.in_err-copied.ensures.reads)))

pub returns-clause-reads : goal.returns-clause-reads
unfolding r.new_of
returns-clause-reads c = λ value. then _ _ c.in_ok-s.ensures.reads (then _ _ (chosen (r.filled _ _) (room-placed _ _ _ _ _ _ _ _ _ _ _ _ _ c.in_ok-s.ensures.reads.read).whole c.in_ok-copied.ensures.reads) c.closed.ensures.reads)
