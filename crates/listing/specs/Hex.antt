-- Bytes in hex, two digits each.
use Rattle.std.specs.Prelude.{List, [], ◌∷◌, ℕ, ◌+◌, ◌/◌, ◌%◌, cond, nat_lt, ◌==◌, length, codes}

-- the ASCII code of a digit below 16: `0` to `9`, then `a` to `f`
abbrev pub hex_digit_ascii : ℕ → ℕ
hex_digit_ascii d = cond (nat_lt d 10) (48 + d) (87 + d)

unfoldable pub hex_of : List ℕ → List ℕ
hex_of [] = []
hex_of (b ∷ s) = hex_digit_ascii (b / 16) ∷ hex_digit_ascii (b % 16) ∷ hex_of s

-- what is shown of bytes: `-` where there are none
abbrev pub shown_bytes : List ℕ → List ℕ
shown_bytes s = cond (length s == 0) (codes "-") (hex_of s)
