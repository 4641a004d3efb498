-- Big-endian numbers, over the width in bytes.
use Rattle.std.specs.Prelude.{Option, Some, None, cond, List, [], ◌∷◌, ℕ, zero, suc, ◌+◌, ◌*◌, ◌-◌, ◌^◌, ◌/◌, ◌%◌, leb, ltb, eqb, length}
use Rattle.std.proofs.Math.Seq.{slice}
use Rattle.wire.specs.declared.Part.{Part}
use Rattle.wire.specs.declared.Part.TheVariants.{More, Whole}

-- the number of a list of bytes, behind the number n
unfoldable pub number_of : ℕ → List ℕ → ℕ
number_of n [] = n
number_of n (b ∷ s) = number_of (n * 2 ^ 8 + b) s

-- the k bytes at a place of s, with the place behind them
unfoldable pub bytes_at : ℕ → List ℕ → ℕ → Option (List ℕ × ℕ)
bytes_at k s at = cond (leb (at + k) (length s)) (Some (slice at (at + k) s, at + k)) None

-- the number in k bytes at a place of s, with the place behind it
unfoldable pub number_at : ℕ → List ℕ → ℕ → Option (ℕ × ℕ)
number_at k s at = cond (leb (at + k) (length s)) (Some (number_of 0 (slice at (at + k) s), at + k)) None

-- the k low bytes of n, the highest first
unfoldable pub bytes_of : ℕ → ℕ → List ℕ
bytes_of zero n = []
bytes_of (suc k) n = (n / 2 ^ (8 * k) % 2 ^ 8) ∷ bytes_of k n

-- how many bytes of a number of eight come after the first, and the bits of each
abbrev pub number_more : ℕ
number_more = 7

abbrev pub number_bits : ℕ
number_bits = 8

-- one byte b of a number of eight: `left` more come after it, and those before it gave n; astray are numbers that no such number has
unfoldable pub digit_of : ℕ → ℕ → ℕ → Option Part
digit_of left n b =
    cond (ltb number_more left) None
    (cond (leb (2 ^ (number_bits * (number_more - left))) n) None
    (cond (eqb left 0) (Some (Whole (n * 2 ^ 8 + b))) (Some (More (n * 2 ^ 8 + b)))))
