-- A name that is there.
use native.Mathlib.Omega.{arith}
use Rattle.scan.proofs.Bounds.{name-fits}
use Rattle.scan.proofs.decisions.sealed_key.Goals as goal

pub returns : goal.returns
returns c = (c.sealed_key.ensures, name-fits _ _ _ _ c.sealed_key.ensures (omega arith))
