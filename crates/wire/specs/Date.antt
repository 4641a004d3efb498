-- Dates: a double's 64 bits, on the wire and in a row; milliseconds where they are asked for.
use Rattle.std.specs.Prelude.{Option, Some, None, Bool, true, false, cond, not, ℕ, ◌-◌, ◌^◌, min, ℤ, pos, neg_ℤ, Float}
use Rattle.std.specs.Float.{nan, inf, fin, binary64}
use Rattle.std.specs.Float.Ieee.{of_bits, to_signed}

-- neither NaN nor infinite
unfoldable pub finite : Float → Bool
finite nan = false
finite (inf s) = false
finite (fin s m e) = true

-- the bits of NaN or of an infinity: 7 in a message, 14 in a row to be written
unfoldable pub refused_date : ℕ → Bool
refused_date b = not (finite (of_bits binary64 b))

-- milliseconds: cut towards zero, held at -2 ^ 63 and at 2 ^ 63 - 1
unfoldable pub moment_of : ℕ → Option ℤ
moment_of b = cond (refused_date b) None (Some (to_signed 63 (of_bits binary64 b)))

-- a whole part with its sign, held at the same ends
abbrev pub bounded : Bool → ℕ → ℤ
bounded negative n = cond negative (neg_ℤ (pos (min n (2 ^ 63)))) (pos (min n (2 ^ 63 - 1)))
