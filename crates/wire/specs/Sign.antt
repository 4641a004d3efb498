-- Two's complement, once over the number of bits: the remainder, and its inverse.
use Rattle.std.specs.Prelude.{Option, Some, None, cond, ◌≡◌, ℕ, suc, ◌+◌, ◌-◌, ◌^◌, ◌%◌, ltb, ℤ, pos, negsuc, ◌+ℤ◌, ◌*ℤ◌}
use Rattle.std.proofs.Math.IntN.{sub_ℕ}
use Rattle.std.specs.Int.Signed.{mag}

-- v and r are a multiple of m apart
abbrev pub Apart : ℕ → ℤ → ℕ → Type 0
Apart m v r = (q : ℤ) × (v ≡ q *ℤ pos m +ℤ pos r)

-- the remainder of v modulo m, m not 0: the one number below m that is a multiple of m apart from v (`residue-is`, `residue-only`)
abbrev pub residue : ℕ → ℤ → ℕ
residue m (pos n) = n % m
residue m (negsuc n) = m - suc (n % m)

-- the low h + 1 bits of a signed number: its remainder modulo 2 ^ (h + 1)
abbrev pub bits_at : ℕ → ℤ → ℕ
bits_at h v = residue (2 ^ suc h) v

-- its inverse: the number from - 2 ^ h to 2 ^ h - 1 of which n, of h + 1 bits, is the remainder (`bits-signed`, `signed-bits`)
abbrev pub signed_at : ℕ → ℕ → ℤ
signed_at h n = sub_ℕ ((n + 2 ^ h) % 2 ^ suc h) (2 ^ h)

-- the integer in the low 29 bits of a number
unfoldable pub integer_of : ℕ → ℤ
integer_of n = signed_at 28 (n % 2 ^ 29)

-- the 29 bits of an integer from - 2 ^ 28 to 2 ^ 28 - 1 (`mag` counts from 0 up and from -1 down); another has none
unfoldable pub bits_of : ℤ → Option ℕ
bits_of v = cond (ltb (mag v) (2 ^ 28)) (Some (bits_at 28 v)) None

-- a signed number of 64 bits as a column holds it, and back
unfoldable pub column_of : ℤ → ℕ
column_of v = bits_at 63 v

unfoldable pub of_column : ℕ → ℤ
of_column x = signed_at 63 x
