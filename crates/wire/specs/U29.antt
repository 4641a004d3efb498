-- U29: up to three bytes give seven bits each, high bit set meaning more; the fourth gives all its eight bits.
use Rattle.std.specs.Prelude.{Option, Some, None, cond, List, [], ◌∷◌, ◌++◌, ℕ, zero, suc, ◌+◌, ◌*◌, ◌-◌, ◌^◌, ◌/◌, ◌%◌, leb, ltb, eqb, drop}
use Rattle.wire.specs.declared.Part.{Part}
use Rattle.wire.specs.declared.Part.TheVariants.{More, Whole}

-- how many bytes may come after the first, and the bits that each of those before the last gives
abbrev pub word_more : ℕ
word_more = 3

abbrev pub word_bits : ℕ
word_bits = 7

-- one byte b of a U29: `left` more may come after it, and those before it gave n; astray are numbers that no U29 has
unfoldable pub part_of : ℕ → ℕ → ℕ → Option Part
part_of left n b =
    cond (ltb word_more left) None
    (cond (leb (2 ^ (word_bits * (word_more - left))) n) None
    (cond (eqb left 0) (Some (Whole (n * 2 ^ 8 + b)))
    (cond (ltb b (2 ^ 7)) (Some (Whole (n * 2 ^ 7 + b))) (Some (More (n * 2 ^ 7 + (b - 2 ^ 7)))))))

-- after a byte: the value, with the place behind it, or what more bytes give
abbrev pub go_on : (ℕ → Option (ℕ × ℕ)) → ℕ → Option Part → Option (ℕ × ℕ)
go_on more at (Some (More n)) = more n
go_on more at (Some (Whole n)) = Some (n, at)
go_on more at None = None

-- the U29 that goes on with the bytes s, the first of them at place `at`
unfoldable pub rest_of : ℕ → ℕ → List ℕ → ℕ → Option (ℕ × ℕ)
rest_of left n [] at = None
rest_of left n (b ∷ s) at = go_on (λ m. rest_of (left - 1) m s (at + 1)) (at + 1) (part_of left n b)

-- the U29 at a place of s
abbrev pub u29_at : List ℕ → ℕ → Option (ℕ × ℕ)
u29_at s at = rest_of 3 0 (drop at s) at

-- k groups of seven bits of m, the highest first, each byte saying more
unfoldable pub groups : ℕ → ℕ → List ℕ
groups zero m = []
groups (suc k) m = (2 ^ 7 + m / 2 ^ (7 * k) % 2 ^ 7) ∷ groups k m

-- the last byte's bits, after k others
abbrev pub last_bits : ℕ → ℕ
last_bits k = cond (eqb k 3) 8 7

-- n in k + 1 bytes
abbrev pub form_of : ℕ → ℕ → List ℕ
form_of k n = groups k (n / 2 ^ last_bits k) ++ (n % 2 ^ last_bits k ∷ [])

-- how many bytes stand before the last in the shortest form
unfoldable pub more_of : ℕ → ℕ
more_of n = cond (ltb n (2 ^ 7)) 0 (cond (ltb n (2 ^ 14)) 1 (cond (ltb n (2 ^ 21)) 2 3))

-- the shortest form of n, or of its low 29 bits
unfoldable pub u29 : ℕ → List ℕ
u29 n = form_of (more_of n) n
