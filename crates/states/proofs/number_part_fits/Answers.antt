-- The next byte doesn't go astray.
use Rattle.std.proofs.Common.{rules}
use Rattle.states.proofs.Parts.{number_tracked}
use Rattle.states.proofs.number_part_fits.Goals as goal

pub returns : goal.returns
returns c = rw (← number_tracked c.args.left c.args.part 0, ← c.be64_byte.ensures) (search rules)
