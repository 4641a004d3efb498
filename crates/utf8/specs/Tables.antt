-- The tables of the text test, which are the code's constants: a class for each octet, and the moves by state and class.
use Rattle.std.specs.Prelude.{Bool, false, ◌||◌, List, [], ◌∷◌, ℕ, ◌/◌, ◌%◌, get_or}
use Rattle.utf8.specs.Grammar.{Range, ◌to◌, has}
use Rattle.utf8.specs.States.{text_broken, fold_by, valid_by}

-- numbers to a line
abbrev pub line_width : ℕ
line_width = 16

-- ---- the classes

-- the octets of each class; UTF8-tail has three classes, since right after E0, ED, F0 and F4 only a part of it may stand; and these four have a class each
abbrev pub ranges : List (List Range)
ranges =
    ((0x00 to 0x7F) ∷ [])  -- 0: UTF8-1
    ∷ ((0x80 to 0x8F) ∷ [])  -- 1: UTF8-tail
    ∷ ((0x90 to 0x9F) ∷ [])  -- 2
    ∷ ((0xA0 to 0xBF) ∷ [])  -- 3
    ∷ ((0xC0 to 0xC1) ∷ (0xF5 to 0xFF) ∷ [])  -- 4: never appears
    ∷ ((0xC2 to 0xDF) ∷ [])  -- 5: begins UTF8-2
    ∷ ((0xE0 to 0xE0) ∷ [])  -- 6: begins UTF8-3
    ∷ ((0xE1 to 0xEC) ∷ (0xEE to 0xEF) ∷ [])  -- 7
    ∷ ((0xED to 0xED) ∷ [])  -- 8
    ∷ ((0xF0 to 0xF0) ∷ [])  -- 9: begins UTF8-4
    ∷ ((0xF1 to 0xF3) ∷ [])  -- 10
    ∷ ((0xF4 to 0xF4) ∷ [])  -- 11
    ∷ []

-- the class of what never appears
abbrev pub never_appears : ℕ
never_appears = 4

-- whether one of some ranges has an octet
abbrev pub among : List Range → ℕ → Bool
among [] b = false
among (r ∷ rs) b = has r b || among rs b

-- whether an octet is in the ranges of a class
abbrev pub in_class : ℕ → ℕ → Bool
in_class c b = among (get_or ranges c []) b

-- the classes as a table, a line for each first four bits; that it says what the ranges say is the class rule (proofs/Classes)
abbrev pub classes : List (List ℕ)
classes =
    (0 ∷ 0 ∷ 0 ∷ 0 ∷ 0 ∷ 0 ∷ 0 ∷ 0 ∷ 0 ∷ 0 ∷ 0 ∷ 0 ∷ 0 ∷ 0 ∷ 0 ∷ 0 ∷ [])  -- 00 to 0F: UTF8-1
    ∷ (0 ∷ 0 ∷ 0 ∷ 0 ∷ 0 ∷ 0 ∷ 0 ∷ 0 ∷ 0 ∷ 0 ∷ 0 ∷ 0 ∷ 0 ∷ 0 ∷ 0 ∷ 0 ∷ [])  -- 10 to 1F: UTF8-1
    ∷ (0 ∷ 0 ∷ 0 ∷ 0 ∷ 0 ∷ 0 ∷ 0 ∷ 0 ∷ 0 ∷ 0 ∷ 0 ∷ 0 ∷ 0 ∷ 0 ∷ 0 ∷ 0 ∷ [])  -- 20 to 2F: UTF8-1
    ∷ (0 ∷ 0 ∷ 0 ∷ 0 ∷ 0 ∷ 0 ∷ 0 ∷ 0 ∷ 0 ∷ 0 ∷ 0 ∷ 0 ∷ 0 ∷ 0 ∷ 0 ∷ 0 ∷ [])  -- 30 to 3F: UTF8-1
    ∷ (0 ∷ 0 ∷ 0 ∷ 0 ∷ 0 ∷ 0 ∷ 0 ∷ 0 ∷ 0 ∷ 0 ∷ 0 ∷ 0 ∷ 0 ∷ 0 ∷ 0 ∷ 0 ∷ [])  -- 40 to 4F: UTF8-1
    ∷ (0 ∷ 0 ∷ 0 ∷ 0 ∷ 0 ∷ 0 ∷ 0 ∷ 0 ∷ 0 ∷ 0 ∷ 0 ∷ 0 ∷ 0 ∷ 0 ∷ 0 ∷ 0 ∷ [])  -- 50 to 5F: UTF8-1
    ∷ (0 ∷ 0 ∷ 0 ∷ 0 ∷ 0 ∷ 0 ∷ 0 ∷ 0 ∷ 0 ∷ 0 ∷ 0 ∷ 0 ∷ 0 ∷ 0 ∷ 0 ∷ 0 ∷ [])  -- 60 to 6F: UTF8-1
    ∷ (0 ∷ 0 ∷ 0 ∷ 0 ∷ 0 ∷ 0 ∷ 0 ∷ 0 ∷ 0 ∷ 0 ∷ 0 ∷ 0 ∷ 0 ∷ 0 ∷ 0 ∷ 0 ∷ [])  -- 70 to 7F: UTF8-1
    ∷ (1 ∷ 1 ∷ 1 ∷ 1 ∷ 1 ∷ 1 ∷ 1 ∷ 1 ∷ 1 ∷ 1 ∷ 1 ∷ 1 ∷ 1 ∷ 1 ∷ 1 ∷ 1 ∷ [])  -- 80 to 8F: UTF8-tail, but not right after E0 or F0
    ∷ (2 ∷ 2 ∷ 2 ∷ 2 ∷ 2 ∷ 2 ∷ 2 ∷ 2 ∷ 2 ∷ 2 ∷ 2 ∷ 2 ∷ 2 ∷ 2 ∷ 2 ∷ 2 ∷ [])  -- 90 to 9F: UTF8-tail, but not right after E0 or F4
    ∷ (3 ∷ 3 ∷ 3 ∷ 3 ∷ 3 ∷ 3 ∷ 3 ∷ 3 ∷ 3 ∷ 3 ∷ 3 ∷ 3 ∷ 3 ∷ 3 ∷ 3 ∷ 3 ∷ [])  -- A0 to AF: UTF8-tail, but not right after ED or F4
    ∷ (3 ∷ 3 ∷ 3 ∷ 3 ∷ 3 ∷ 3 ∷ 3 ∷ 3 ∷ 3 ∷ 3 ∷ 3 ∷ 3 ∷ 3 ∷ 3 ∷ 3 ∷ 3 ∷ [])  -- B0 to BF: the same
    ∷ (4 ∷ 4 ∷ 5 ∷ 5 ∷ 5 ∷ 5 ∷ 5 ∷ 5 ∷ 5 ∷ 5 ∷ 5 ∷ 5 ∷ 5 ∷ 5 ∷ 5 ∷ 5 ∷ [])  -- C0 to CF: C0 and C1 never appear; C2 on begin UTF8-2
    ∷ (5 ∷ 5 ∷ 5 ∷ 5 ∷ 5 ∷ 5 ∷ 5 ∷ 5 ∷ 5 ∷ 5 ∷ 5 ∷ 5 ∷ 5 ∷ 5 ∷ 5 ∷ 5 ∷ [])  -- D0 to DF: begin UTF8-2
    ∷ (6 ∷ 7 ∷ 7 ∷ 7 ∷ 7 ∷ 7 ∷ 7 ∷ 7 ∷ 7 ∷ 7 ∷ 7 ∷ 7 ∷ 7 ∷ 8 ∷ 7 ∷ 7 ∷ [])  -- E0 to EF: begin UTF8-3, E0 and ED each in its own way
    ∷ (9 ∷ 10 ∷ 10 ∷ 10 ∷ 11 ∷ 4 ∷ 4 ∷ 4 ∷ 4 ∷ 4 ∷ 4 ∷ 4 ∷ 4 ∷ 4 ∷ 4 ∷ 4 ∷ [])  -- F0 to FF: F0 to F4 begin UTF8-4, F0 and F4 each in its own way; F5 to FF never appear
    ∷ []

-- what a table has for an octet: the line by its first four bits, the column by its last four; d where it has nothing
abbrev pub at_octet : ℕ → List (List ℕ) → ℕ → ℕ
at_octet d C b = get_or (get_or C (b / line_width) []) (b % line_width) d

-- the class of an octet; any larger number never appears
abbrev pub class_of : ℕ → ℕ
class_of b = at_octet never_appears classes b

-- ---- the moves

-- the state after an octet: a line for each state, a column for each class, from 0 on; the last four columns are no class
abbrev pub moves : List (List ℕ)
moves =
    (0 ∷ 8 ∷ 8 ∷ 8 ∷ 8 ∷ 1 ∷ 4 ∷ 2 ∷ 5 ∷ 6 ∷ 3 ∷ 7 ∷ 8 ∷ 8 ∷ 8 ∷ 8 ∷ [])  -- 0: between characters
    ∷ (8 ∷ 0 ∷ 0 ∷ 0 ∷ 8 ∷ 8 ∷ 8 ∷ 8 ∷ 8 ∷ 8 ∷ 8 ∷ 8 ∷ 8 ∷ 8 ∷ 8 ∷ 8 ∷ [])  -- 1: one UTF8-tail to come
    ∷ (8 ∷ 1 ∷ 1 ∷ 1 ∷ 8 ∷ 8 ∷ 8 ∷ 8 ∷ 8 ∷ 8 ∷ 8 ∷ 8 ∷ 8 ∷ 8 ∷ 8 ∷ 8 ∷ [])  -- 2: two, as after E1
    ∷ (8 ∷ 2 ∷ 2 ∷ 2 ∷ 8 ∷ 8 ∷ 8 ∷ 8 ∷ 8 ∷ 8 ∷ 8 ∷ 8 ∷ 8 ∷ 8 ∷ 8 ∷ 8 ∷ [])  -- 3: three, as after F1
    ∷ (8 ∷ 8 ∷ 8 ∷ 1 ∷ 8 ∷ 8 ∷ 8 ∷ 8 ∷ 8 ∷ 8 ∷ 8 ∷ 8 ∷ 8 ∷ 8 ∷ 8 ∷ 8 ∷ [])  -- 4: after E0: A0 to BF, then one
    ∷ (8 ∷ 1 ∷ 1 ∷ 8 ∷ 8 ∷ 8 ∷ 8 ∷ 8 ∷ 8 ∷ 8 ∷ 8 ∷ 8 ∷ 8 ∷ 8 ∷ 8 ∷ 8 ∷ [])  -- 5: after ED: 80 to 9F, then one
    ∷ (8 ∷ 8 ∷ 2 ∷ 2 ∷ 8 ∷ 8 ∷ 8 ∷ 8 ∷ 8 ∷ 8 ∷ 8 ∷ 8 ∷ 8 ∷ 8 ∷ 8 ∷ 8 ∷ [])  -- 6: after F0: 90 to BF, then two
    ∷ (8 ∷ 2 ∷ 8 ∷ 8 ∷ 8 ∷ 8 ∷ 8 ∷ 8 ∷ 8 ∷ 8 ∷ 8 ∷ 8 ∷ 8 ∷ 8 ∷ 8 ∷ 8 ∷ [])  -- 7: after F4: 80 to 8F, then two
    ∷ (8 ∷ 8 ∷ 8 ∷ 8 ∷ 8 ∷ 8 ∷ 8 ∷ 8 ∷ 8 ∷ 8 ∷ 8 ∷ 8 ∷ 8 ∷ 8 ∷ 8 ∷ 8 ∷ [])  -- 8: broken
    ∷ []

-- the state after an octet of a class
abbrev pub move_of : ℕ → ℕ → ℕ
move_of k c = get_or (get_or moves k []) c text_broken

-- ---- the test

-- what two tables have for a state and an octet: what the first has for the octet is the column in the second
abbrev pub looked_up : List (List ℕ) → List (List ℕ) → ℕ → ℕ → ℕ
looked_up C M k b = get_or (get_or M k []) (at_octet 0 C b) 0

-- the state after an octet, by the tables
abbrev pub table_step : ℕ → ℕ → ℕ
table_step k b = move_of k (class_of b)

-- the state after a piece
abbrev pub table_fold : ℕ → List ℕ → ℕ
table_fold = fold_by table_step

-- whether a list of octets is a text
abbrev pub table_valid : List ℕ → Bool
table_valid = valid_by table_step
