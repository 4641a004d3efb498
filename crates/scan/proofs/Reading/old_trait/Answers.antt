-- The decision, on the loan that it looks at.
use mathlib.Core.Path.{refl}
use Rattle.scan.proofs.Does.{does_old_trait}
use Rattle.scan.proofs.Reading.old_trait.Goals as goal

pub returns : goal.returns
returns c = (record { read = does_old_trait _ _ _ _ _ _ _ _ _ _ c.old_trait.ensures; same = (refl, (refl, refl)) })
