-- The bits of a signed number.
use mathlib.Core.Path.{◌∙◌}
use Rattle.wire.proofs.Steps as steps
use Rattle.wire.proofs.column.Goals as goal

pub returns : goal.returns
returns c = c.cast_unsigned.ensures ∙ steps.column-is c.ranges.v
