-- Lists of bytes.
use Rattle.std.specs.Prelude.{List, ℕ, ◌^◌, ◌<◌, get_or}

-- each of s is a byte, also what stands for what is past the end
abbrev pub Bytes : List ℕ → Type 0
Bytes s = (i : ℕ) → get_or s i 0 < 2 ^ 8
