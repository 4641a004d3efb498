-- Both tests.
use mathlib.Core.Path.{sym, ◌∙◌}
use Rattle.rows.specs.Memory.{message_limit}
use Rattle.scan.proofs.message.here.Goals as goal

pub returns-then-fits : goal.returns-then-fits
unfolding message_limit
returns-then-fits c = sym (simp (sym c.fits.ensures ∙ c.if-fits.true, sym c.fits-then-fits.ensures))
