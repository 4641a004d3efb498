-- State 0 at the end is a text.
use Rattle.utf8.proofs.Fold.{fold_valid}
use Rattle.utf8.proofs.valid.Goals as goal

pub returns : goal.returns
returns c = rw c.run.ensures (fold_valid _)
