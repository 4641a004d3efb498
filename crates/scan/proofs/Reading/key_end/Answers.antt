-- The decision, on the loan that it looks at.
use mathlib.Core.Path.{refl}
use Rattle.scan.proofs.Does.{does_key-end}
use Rattle.scan.proofs.Reading.key_end.Goals as goal

pub returns : goal.returns
returns c = (record { read = does_key-end _ _ _ _ _ _ _ _ _ _ _ c.key_end.ensures; same = (refl, (refl, refl)) })
