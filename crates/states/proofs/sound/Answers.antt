-- Test by test.
use Rattle.std.proofs.Common.{rules}
use Rattle.rows.specs.Memory.{message_limit}
use Rattle.format.specs.Numbers.{same_lent}
use Rattle.states.proofs.Lengths.{sounds, names_some}
use Rattle.states.proofs.sound.Goals as goal

pub returns-then-mode_fits : goal.returns-then-mode_fits
unfolding message_limit same_lent
returns-then-mode_fits c = sounds c.args.h c.args.l _ (search (rules, names_some))

pub returns-else-mode_fits : goal.returns-else-mode_fits
unfolding message_limit same_lent
returns-else-mode_fits c = sounds c.args.h c.args.l _ (search (rules, names_some))
