-- The head after the run answers.
use Rattle.feed.proofs.Calls.{fed_in}
use Rattle.pieces.proofs.Drives.{ran-parts}
use Rattle.feed.proofs.fed_in.Goals as goal

pub returns-clause-call : goal.returns-clause-call
returns-clause-call c = fed_in _ _ _ _ _ _ _ _ (ran-parts c.run-ran.ensures.ran) (c.answer_of.ensures _ _)
