-- The text test as it was before the tables: comparisons one after the other. No code takes its steps by it; it stands here to be compared with (as_before).
use Rattle.std.specs.Prelude.{Bool, cond, List, [], ◌∷◌, ℕ, ltb, eqb, get_or}
use Rattle.utf8.specs.States.{text_broken, fold_by, valid_by}

-- the state after the first octet of a character
unfoldable pub start_of : ℕ → ℕ
start_of b =
    cond (ltb b 0x80) 0 (cond (ltb b 0xC2) 8 (cond (ltb b 0xE0) 1 (cond (eqb b 0xE0) 4 (cond (eqb b 0xED) 5
    (cond (ltb b 0xF0) 2 (cond (eqb b 0xF0) 6 (cond (ltb b 0xF4) 3 (cond (eqb b 0xF4) 7 8))))))))

-- the state after an octet that has to lie from lo to hi
unfoldable pub within_of : ℕ → ℕ → ℕ → ℕ → ℕ
within_of b lo hi then = cond (ltb b lo) 8 (cond (ltb hi b) 8 then)

-- the state after an octet: an arm for each state but the last
unfoldable pub ladder_step : ℕ → ℕ → ℕ
ladder_step k b =
    get_or
    (start_of b
    ∷ within_of b 0x80 0xBF 0
    ∷ within_of b 0x80 0xBF 1
    ∷ within_of b 0x80 0xBF 2
    ∷ within_of b 0xA0 0xBF 1
    ∷ within_of b 0x80 0x9F 1
    ∷ within_of b 0x90 0xBF 2
    ∷ within_of b 0x80 0x8F 2
    ∷ [])
    k text_broken

-- the state after a piece
abbrev pub ladder_fold : ℕ → List ℕ → ℕ
ladder_fold = fold_by ladder_step

-- whether a list of octets is a text
abbrev pub ladder_valid : List ℕ → Bool
ladder_valid = valid_by ladder_step
