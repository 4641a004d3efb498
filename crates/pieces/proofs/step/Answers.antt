-- A piece of one byte.
use Rattle.format.specs.Answers.{run_held}
use Rattle.pieces.proofs.Drives.{ran-parts}
use Rattle.pieces.proofs.step.Goals as goal

pub returns-clause-held : goal.returns-clause-held
unfolding run_held
returns-clause-held c = (ran-parts c.run.ensures.ran).0
