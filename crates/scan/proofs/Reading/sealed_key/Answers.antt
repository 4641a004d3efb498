-- The decision, on the loan that it looks at.
use mathlib.Core.Path.{refl}
use Rattle.scan.proofs.Does.{does_sealed-key}
use Rattle.scan.proofs.Reading.sealed_key.Goals as goal

pub returns : goal.returns
returns c = (record { read = does_sealed-key _ _ _ _ _ _ _ _ _ _ c.sealed_key.ensures.0; same = (refl, (refl, refl)) }, c.sealed_key.ensures.1)
