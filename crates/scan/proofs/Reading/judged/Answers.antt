-- The decision, on the loan that it looks at.
use mathlib.Core.Path.{refl}
use Rattle.scan.proofs.Does.{does_judged}
use Rattle.scan.proofs.Reading.judged.Goals as goal

pub returns : goal.returns
returns c = (record { read = does_judged _ _ _ _ _ _ _ _ _ _ c.judged.ensures; same = (refl, (refl, refl)) })
