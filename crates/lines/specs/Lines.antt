-- A list of vectors: the words of a line, the lines of a text, and the tally of right and wrong lines.
use Rattle.std.specs.Prelude.{ℕ, ◌+◌, ◌-◌, ◌*◌, ◌%◌, ◌^◌, Bool, true, false, cond, ◌&&◌, Option, Some, None, List, [], ◌∷◌, length, drop, ◌==◌, nat_le, nat_lt, slice_get, ◌++◌, codes, decimal}
use Rattle.std.specs.Option.{option_and_then}
use Rattle.std.proofs.lemmas.List.Edits.{sets}
use Rattle.lines.specs.declared.Tally.{Tally}

-- ---- the words of a line

-- the value of a hexadecimal digit, `0` to `9` or `a` to `f`; none for any other byte
unfoldable pub digit_of : ℕ → Option ℕ
digit_of b =
    cond (nat_le 0x30 b && nat_le b 0x39) (Some (b - 0x30))
    (cond (nat_le 0x61 b && nat_le b 0x66) (Some (b - 0x61 + 10)) None)

-- the value of the digit at a place of a line
unfoldable pub digit_at : List ℕ → ℕ → Option ℕ
digit_at line at = option_and_then digit_of (slice_get line at)

-- a digit before others, or none and so the end of them
abbrev pub before : Option ℕ → List ℕ → List ℕ
before None ds = []
before (Some d) ds = d ∷ ds

-- the values of the digits that a list begins with
unfoldable pub digits_of : List ℕ → List ℕ
digits_of [] = []
digits_of (b ∷ s) = before (digit_of b) (digits_of s)

-- the values of the digits at a place of a line
abbrev pub digits_at : List ℕ → ℕ → List ℕ
digits_at line at = digits_of (drop at line)

-- the place behind the blank or line end at a place
unfoldable pub behind_of : List ℕ → ℕ → ℕ
behind_of line at = cond (nat_lt at (length line)) (at + 1) at

-- the place behind the digits at a place, and behind their blank
abbrev pub word_end : List ℕ → ℕ → ℕ
word_end line at = behind_of line (at + length (digits_at line at))

-- the number of a list of digits, behind the number n
unfoldable pub value_of : ℕ → List ℕ → ℕ
value_of n [] = n
value_of n (d ∷ ds) = value_of (n * 16 + d) ds

-- the low 64 bits of the number that digits make, with a place; none where there is no digit
unfoldable pub number_of : List ℕ → ℕ → Option (ℕ × ℕ)
number_of [] end = None
number_of (d ∷ ds) end = Some (value_of 0 (d ∷ ds) % 2 ^ 64, end)

-- the number at a place of a line
unfoldable pub number_at : List ℕ → ℕ → Option (ℕ × ℕ)
number_at line at = number_of (digits_at line at) (word_end line at)

-- the bytes of two digits each; a digit that is left alone makes none
unfoldable pub pairs_of : List ℕ → List ℕ
pairs_of [] = []
pairs_of (high ∷ []) = []
pairs_of (high ∷ low ∷ ds) = (high * 16 + low) ∷ pairs_of ds

-- the bytes at a place of a line
abbrev pub bytes_at : List ℕ → ℕ → List ℕ
bytes_at line at = pairs_of (digits_at line at)

-- a number with a place, or none, and the list that is left
pub data Filled : Type 0 where
  filled : Option (ℕ × ℕ) → List ℕ → Filled

-- the bytes at a place, put into a list from its beginning as far as it goes; missing is a digit, or room for a byte
unfoldable pub fill_at : List ℕ → ℕ → List ℕ → Filled
fill_at line at out =
    filled
    (cond (length (digits_at line at) == 2 * length (bytes_at line at) && nat_le (length (bytes_at line at)) (length out))
    (Some (length (bytes_at line at), word_end line at)) None)
    (sets out 0 (bytes_at line at))

-- ---- the tally

abbrev pub tally : ℕ → ℕ → ℕ → Option ℕ → Tally
tally lines right wrong first = record { lines = lines; right = right; wrong = wrong; first = first }

-- one more, in 64 bits
abbrev pub more : ℕ → ℕ
more n = (n + 1) % 2 ^ 64

-- after a line of another kind
abbrev pub passed_of : Tally → Tally
passed_of t = tally (more t.lines) t.right t.wrong t.first

-- after a line of its kind; the first that is wrong is remembered by its number
unfoldable pub tallied_of : Tally → Bool → Tally
tallied_of t true = tally (more t.lines) (more t.right) t.wrong t.first
tallied_of t false =
    tally (more t.lines) t.right (more t.wrong) (cond (t.wrong == 0) (Some (more t.lines)) t.first)

-- the number of the first wrong line, where there is one
abbrev pub first_text : Option ℕ → List ℕ
first_text None = []
first_text (Some line) = codes ", the first in line " ++ decimal line

-- what is told of a tally
abbrev pub text_of : Tally → List ℕ
text_of t = (decimal t.right ++ (codes " right, " ++ (decimal t.wrong ++ codes " wrong"))) ++ first_text t.first
