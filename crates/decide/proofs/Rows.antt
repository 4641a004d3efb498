-- What the test of a row tells of the loan.
use mathlib.Core.Path.{◌≡◌, refl, sym, ◌∙◌}
use mathlib.Core.Bool.{Bool, true, false, ◌&&◌}
use Prim.Native.Nat.{ℕ, ◌+◌, ◌*◌, ◌/◌, ◌<◌}
use native.Mathlib.Omega.{arith}
use borrow.Author.Tests.{ltb-true, leb-true}
use lib.Dec.{ltb, leb}
use Rattle.rows.specs.Memory.{row_width, col_end}

both : (a b : Bool) → (a && b) ≡ true → (a ≡ true) × (b ≡ true)
both true b e = (refl, e)
both false b e = (e, cc)

-- every column of a used row is lent
pub used-row : (len used row : ℕ) {r : Bool} → r ≡ (ltb row used && leb used (len / row_width)) → r ≡ true → row * row_width + col_end < len
used-row len used row e t =
    let p : (ltb row used ≡ true) × (leb used (len / row_width) ≡ true) = both (ltb row used) (leb used (len / row_width)) (sym e ∙ t) in
    omega (arith, ltb-true row used p.0, leb-true used (len / row_width) p.1)
