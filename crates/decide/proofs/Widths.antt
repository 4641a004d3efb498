-- The bytes of a raw vector's entry.
use mathlib.Core.Path.{◌≡◌}
use Prim.Native.Nat.{ℕ, ◌<◌}
use native.Mathlib.Omega.{arith}
use Rattle.format.specs.Decide.{width_of}
use Rattle.decide.specs.declared.Width.{Width}
use Rattle.decide.specs.declared.Width.TheVariants.{Four, Eight}
use Rattle.decide.specs.Outcomes.{width_in}

pub width_some : (w : Width) {n : ℕ} → n ≡ width_of (width_in w) → 0 < n
width_some Four e = omega arith
width_some Eight e = omega arith
