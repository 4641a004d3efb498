-- Worked examples: octets, and the state that they lead to from between characters. One list, tried by the grammar, by the tables and by the ladder.
use mathlib.Core.Path.{◌≡◌, refl}
use mathlib.Core.List.{List, [], ◌∷◌, map}
use Prim.Native.Nat.{ℕ, suc, ◌+◌, ◌*◌, ◌-◌}
use lib.ListN.{length, get_or}
use Rattle.utf8.specs.Grammar.{Range, ◌to◌, forms}
use Rattle.utf8.specs.States.{step_of, fold_of, fold_by}
use Rattle.utf8.specs.Tables.{class_of, table_fold}
use Rattle.utf8.specs.Ladder.{start_of, within_of, ladder_step, ladder_fold}

-- octets, and a state
infix 20 ◌lead_to◌
data Leads : Type 0 where
  ◌lead_to◌ : List ℕ → ℕ → Leads

abbrev state : Leads → ℕ
state (s lead_to k) = k

-- the state that a fold gives in its place
abbrev found : (List ℕ → ℕ) → Leads → ℕ
found fold (s lead_to k) = fold s

abbrev examples : List Leads
examples =
    -- a character of each form, and the ends of the forms
    ([] lead_to 0)
    ∷ ((0x00 ∷ []) lead_to 0)
    ∷ ((0x41 ∷ []) lead_to 0)
    ∷ ((0x7F ∷ []) lead_to 0)
    ∷ ((0xC2 ∷ 0x80 ∷ []) lead_to 0)
    ∷ ((0xC3 ∷ 0xA9 ∷ []) lead_to 0)
    ∷ ((0xDF ∷ 0xBF ∷ []) lead_to 0)
    ∷ ((0xE0 ∷ 0xA0 ∷ 0x80 ∷ []) lead_to 0)
    ∷ ((0xED ∷ 0x9F ∷ 0xBF ∷ []) lead_to 0)
    ∷ ((0xEE ∷ 0x80 ∷ 0x80 ∷ []) lead_to 0)
    ∷ ((0xEF ∷ 0xBF ∷ 0xBF ∷ []) lead_to 0)
    ∷ ((0xF0 ∷ 0x90 ∷ 0x80 ∷ 0x80 ∷ []) lead_to 0)
    ∷ ((0xF4 ∷ 0x8F ∷ 0xBF ∷ 0xBF ∷ []) lead_to 0)
    -- cut: that many tails to come, or a second octet
    ∷ ((0xC3 ∷ []) lead_to 1)
    ∷ ((0xE0 ∷ 0xA0 ∷ []) lead_to 1)
    ∷ ((0xED ∷ 0x9F ∷ []) lead_to 1)
    ∷ ((0xEF ∷ []) lead_to 2)
    ∷ ((0xF0 ∷ 0x90 ∷ []) lead_to 2)
    ∷ ((0xF4 ∷ 0x8F ∷ []) lead_to 2)
    ∷ ((0xF1 ∷ 0x80 ∷ []) lead_to 2)
    ∷ ((0xF1 ∷ []) lead_to 3)
    ∷ ((0xE0 ∷ []) lead_to 4)
    ∷ ((0xED ∷ []) lead_to 5)
    ∷ ((0xF0 ∷ []) lead_to 6)
    ∷ ((0xF4 ∷ []) lead_to 7)
    -- broken: a tail alone, longer than need be, a surrogate, above 10FFFF, what never appears, a character cut by another
    ∷ ((0x80 ∷ []) lead_to 8)
    ∷ ((0xC1 ∷ []) lead_to 8)
    ∷ ((0xC0 ∷ 0x80 ∷ []) lead_to 8)
    ∷ ((0xE0 ∷ 0x9F ∷ []) lead_to 8)
    ∷ ((0xF0 ∷ 0x8F ∷ []) lead_to 8)
    ∷ ((0xED ∷ 0xA0 ∷ []) lead_to 8)
    ∷ ((0xF4 ∷ 0x90 ∷ []) lead_to 8)
    ∷ ((0xF5 ∷ []) lead_to 8)
    ∷ ((0xFF ∷ []) lead_to 8)
    ∷ ((0xC3 ∷ 0x41 ∷ []) lead_to 8)
    ∷ ((0x80 ∷ 0x41 ∷ []) lead_to 8)
    ∷ []

by_grammar : map (found (fold_of 0)) examples ≡ map state examples
unfolding fold_of step_of
by_grammar = refl

by-tables : map (found (table_fold 0)) examples ≡ map state examples
unfolding fold_by
by-tables = refl

by_ladder : map (found (ladder_fold 0)) examples ≡ map state examples
unfolding fold_by ladder_step start_of within_of
by_ladder = refl

-- from a number above the states: no octet leaves it, any octet breaks
above : map (fold_of 9) ([] ∷ (0x41 ∷ []) ∷ (0x80 ∷ []) ∷ []) ≡ 9 ∷ 8 ∷ 8 ∷ []
unfolding fold_of step_of
above = refl

-- the lowest octet of each class
lowest : map class_of (0x00 ∷ 0x80 ∷ 0x90 ∷ 0xA0 ∷ 0xC0 ∷ 0xC2 ∷ 0xE0 ∷ 0xE1 ∷ 0xED ∷ 0xF0 ∷ 0xF1 ∷ 0xF4 ∷ []) ≡ 0 ∷ 1 ∷ 2 ∷ 3 ∷ 4 ∷ 5 ∷ 6 ∷ 7 ∷ 8 ∷ 9 ∷ 10 ∷ 11 ∷ []
lowest = refl

-- ---- RFC 3629, section 3: the numbers of the characters of each alternative

-- a number further by the six bits of a tail
abbrev with_tails : ℕ → List ℕ → ℕ
with_tails n [] = n
with_tails n (b ∷ s) = with_tails (n * 64 + (b - 0x80)) s

-- what the first of one, two, three or four octets has besides its bits of the number
abbrev marked : ℕ → ℕ
marked n = get_or (0x00 ∷ 0xC0 ∷ 0xE0 ∷ 0xF0 ∷ []) n 0

abbrev number_of : List ℕ → ℕ
number_of [] = 0
number_of (b ∷ s) = with_tails (b - marked (length s)) s

abbrev low_ends : List Range → List ℕ
low_ends [] = []
low_ends ((lo to hi) ∷ rs) = lo ∷ low_ends rs

abbrev high_ends : List Range → List ℕ
high_ends [] = []
high_ends ((lo to hi) ∷ rs) = hi ∷ high_ends rs

-- from the least number of an alternative to the greatest
abbrev numbers : List Range → Range
numbers f = number_of (low_ends f) to number_of (high_ends f)

-- how many characters an alternative has
abbrev characters : List Range → ℕ
characters [] = 1
characters ((lo to hi) ∷ rs) = (suc hi - lo) * characters rs

abbrev size : Range → ℕ
size (lo to hi) = suc hi - lo

-- they follow each other without a gap, but for the surrogates, D800 to DFFF, up to 10FFFF
form-numbers : map numbers forms
    ≡ (0x0 to 0x7F) ∷ (0x80 to 0x7FF) ∷ (0x800 to 0xFFF) ∷ (0x1000 to 0xCFFF) ∷ (0xD000 to 0xD7FF) ∷ (0xE000 to 0xFFFF) ∷ (0x10000 to 0x3FFFF)
    ∷ (0x40000 to 0xFFFFF) ∷ (0x100000 to 0x10FFFF) ∷ []
form-numbers = refl

-- and there are as many characters as numbers
form-characters : map characters forms ≡ map (λ (f : List Range). size (numbers f)) forms
form-characters = refl
