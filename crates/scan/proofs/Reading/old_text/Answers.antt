-- The decision, on the loan that it looks at.
use mathlib.Core.Path.{refl}
use Rattle.scan.proofs.Does.{does_old-text}
use Rattle.scan.proofs.Reading.old_text.Goals as goal

pub returns : goal.returns
returns c = (record { read = does_old-text _ _ _ _ _ _ _ _ _ _ c.old_text.ensures; same = (refl, (refl, refl)) })
