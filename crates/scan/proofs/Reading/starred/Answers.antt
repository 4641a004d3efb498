-- The decision, on the loan that it looks at.
use mathlib.Core.Path.{refl}
use Rattle.scan.proofs.Does.{does_starred}
use Rattle.scan.proofs.Reading.starred.Goals as goal

pub returns : goal.returns
returns c = (record { read = does_starred _ _ _ _ _ _ _ _ _ _ c.starred.ensures; same = (refl, (refl, refl)) })
