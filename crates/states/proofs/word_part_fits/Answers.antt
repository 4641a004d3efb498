-- The next byte doesn't go astray.
use Rattle.std.proofs.Common.{rules}
use Rattle.states.proofs.Parts.{word_tracked}
use Rattle.states.proofs.word_part_fits.Goals as goal

pub returns : goal.returns
returns c = rw (← word_tracked c.args.left c.args.part 0, ← c.u29_byte.ensures) (search rules)
