-- Room for a text, its bytes, the verdict, and the row's end.
use Rattle.format.specs.Reading as r
use Rattle.scan.proofs.Laws.{then, fails, chosen, out-err}
use Rattle.scan.proofs.Reserves.{room-placed}
use Rattle.parts.proofs.xml_steps.Goals as goal

pub returns-in_err-s-clause-reads : goal.returns-in_err-s-clause-reads
unfolding r.new_of
returns-in_err-s-clause-reads c = λ value. out-err c.from_residual.ensures (fails _ _ c.in_err-s.ensures.reads)

pub checked-requires : goal.checked-requires
checked-requires c = (room-placed _ _ _ _ _ _ _ _ _ _ _ _ _ c.in_ok-s.ensures.reads.read).inside

pub returns-in_err-valid-clause-reads : goal.returns-in_err-valid-clause-reads
unfolding r.new_of
returns-in_err-valid-clause-reads c = λ value. out-err c.from_residual-in_err-valid.ensures (then _ _ c.in_ok-s.ensures.reads (fails _ _ (chosen (r.chars_of _) (room-placed _ _ _ _ _ _ _ _ _ _ _ _ _ c.in_ok-s.ensures.reads.read).whole c.in_err-valid.ensures.reads)))

pub returns-in_err-judged-clause-reads : goal.returns-in_err-judged-clause-reads
unfolding r.new_of
returns-in_err-judged-clause-reads c = λ value. out-err c.from_residual-in_err-judged.ensures (then _ _ c.in_ok-s.ensures.reads (then _ _ (chosen (r.chars_of _) (room-placed _ _ _ _ _ _ _ _ _ _ _ _ _ c.in_ok-s.ensures.reads.read).whole c.in_ok-valid.ensures.reads) (fails _ _ c.in_err-judged.ensures)))

pub returns-clause-reads : goal.returns-clause-reads
unfolding r.new_of
returns-clause-reads c = λ value. then _ _ c.in_ok-s.ensures.reads (then _ _ (chosen (r.chars_of _) (room-placed _ _ _ _ _ _ _ _ _ _ _ _ _ c.in_ok-s.ensures.reads.read).whole c.in_ok-valid.ensures.reads) (then _ _ c.in_ok-judged.ensures c.closed.ensures.reads))
