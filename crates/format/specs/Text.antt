-- What a row is asked for: its text, a part of the store, or the caller's own default; its date's milliseconds.
use Rattle.std.specs.Prelude.{Option, None, cond, ◌&&◌, List, ℕ, ℤ, ◌+◌, leb, eqb, length}
use Rattle.wire.specs.Date.{moment_of}
use Rattle.rows.specs.Kinds.{kind_date}
use Rattle.rows.specs.Memory.{rows_fault, col_kind, col_body_begin, col_body_size, col_number, col}
use Rattle.format.specs.Unfold.{home, part}
use Rattle.format.specs.RowTest.{has_text}

-- the span of a row's text, or there is none
pub data Found : Type 0 where
  nowhere : Found
  found : ℕ → ℕ → Found

-- row i is there, and has text, whose span is within the store
abbrev pub text_in : List ℕ → List ℕ → ℕ → Found
text_in R B i =
    cond (has_text (col R i col_kind) && leb (col R i col_body_begin + col R i col_body_size) (length B)) (found (col R i col_body_begin) (col R i col_body_size)) nowhere

-- a reference answers as its target, which has no text where it is past the rows or a reference itself; there is none in loans that 1 refuses
unfoldable pub text_span : List ℕ → List ℕ → ℕ → Found
text_span R B i = cond (eqb (rows_fault R B) 0) (text_in R B (home R i)) nowhere

-- that part of the store, or the default
abbrev pub text_from : Found → List ℕ → List ℕ → List ℕ
text_from nowhere B default = default
text_from (found begin size) B default = part B begin size

unfoldable pub text_or : List ℕ → List ℕ → ℕ → List ℕ → List ℕ
text_or R B i default = text_from (text_span R B i) B default

-- row i is there, and is a date that is finite: its milliseconds. Nothing else of the row is looked at
abbrev pub moment_in : List ℕ → ℕ → Option ℤ
moment_in R i = cond (eqb (col R i col_kind) kind_date) (moment_of (col R i col_number)) None

-- a reference answers as its target, as for text; there are none in loans that 1 refuses
unfoldable pub moment_at : List ℕ → List ℕ → ℕ → Option ℤ
moment_at R B i = cond (eqb (rows_fault R B) 0) (moment_in R (home R i)) None
