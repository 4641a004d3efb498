-- The digits of a column that is told as a signed number.
use Rattle.std.proofs.Common.{◌≡◌, ℕ, ◌+◌, ◌-◌, ◌^◌, ◌<◌, ◌≤◌, ◌∷◌, suc, arith, ap}
use Rattle.std.specs.Fmt.{decimal, signed_decimal}
use Rattle.wire.specs.Sign.{of_column}
use Rattle.wire.proofs.Sign.{signed_low, signed_high}

-- a column below 2 ^ 63 is its number; another is negative, and has a minus before its digits
pub not-below-zero : (x : ℕ) → x < 2 ^ 63 → signed_decimal (of_column x) ≡ decimal x
unfolding of_column
not-below-zero x l = ap signed_decimal (signed_low 63 x l)

pub below-zero : (x : ℕ) → 2 ^ 63 ≤ x → x < 2 ^ 64 → signed_decimal (of_column x) ≡ 0x2D ∷ decimal (2 ^ 64 - 1 - x + 1)
unfolding of_column
below-zero x l h =
    let e : 2 ^ 64 - 1 - x + 1 ≡ suc (2 ^ 64 - suc x) = omega arith in
    rw e (ap signed_decimal (signed_high 63 x l h))
