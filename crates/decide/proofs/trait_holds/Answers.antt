-- Both tests.
use Rattle.std.proofs.Common.{rules}
use Rattle.format.specs.Decide.{trait_holds}
use Rattle.decide.proofs.trait_holds.Goals as goal

pub returns-then-fits : goal.returns-then-fits
unfolding trait_holds
returns-then-fits c = search rules

pub returns-else-fits : goal.returns-else-fits
unfolding trait_holds
returns-else-fits c = search rules
