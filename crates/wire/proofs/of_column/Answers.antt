-- The signed number of these bits.
use mathlib.Core.Path.{◌∙◌}
use Rattle.wire.proofs.Steps as steps
use Rattle.wire.proofs.of_column.Goals as goal

pub returns : goal.returns
returns c = steps.kept (c.cast_signed.ensures ∙ steps.signed-is c.args.x c.ranges.x.fits) (steps.column_fits c.args.x c.ranges.x.fits)
