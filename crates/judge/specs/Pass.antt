-- What the code computes, in its own order: a row by itself, the walk over its children with the two least rows, the pass over all rows.
use Rattle.std.specs.Prelude.{◌≡◌, Bool, true, cond, not, ◌&&◌, List, ℕ, zero, suc, min, leb, ltb, eqb, Option, Some, None}
use Rattle.rows.specs.declared.Span.{Span}
use Rattle.rows.specs.Memory.{span, col_kind, col_key_mark, col_key_begin, col_key_size, col_body_begin, col_body_size, col_class_mark, col_count, col_end, rows_in, col}
use Rattle.rows.specs.Kinds.{kind_undefined, kind_array, kind_object, kind_reference}
use Rattle.utf8.specs.Grammar.{valid_text}
use Rattle.format.specs.Unfold.{part, key_text}
use Rattle.format.specs.RowTest.{has_text, has_body, has_class, is_object, span_fits, mark_fits, meant, columns_fit, value_fits, children, Given, keyless, any_key}
use Rattle.format.specs.RowTest.{full_key, mark_of, is_filled, number_writable, body_writable, Tested, fine, faulty}
use Rattle.judge.specs.declared.Least.{Least}
use Rattle.judge.specs.declared.Known.{Known}

-- ---- a row by itself

-- the columns of its body, or of its class
unfoldable pub body_fits : List ℕ → List ℕ → ℕ → ℕ → Bool
body_fits R B i kind =
    cond (has_class kind) (mark_fits B (col R i col_class_mark) (col R i col_body_begin) (col R i col_body_size))
    (eqb (col R i col_class_mark) 0 && meant (has_body kind) (col R i col_body_size) && span_fits B (col R i col_body_begin) (col R i col_body_size))

-- reference i names an object that ended before it
unfoldable pub target_fits : List ℕ → ℕ → ℕ → Bool
target_fits R i target = ltb target i && leb (col R target col_end) i && is_object (col R target col_kind)

-- 13, but for its children and its key's mark
unfoldable pub row_fits : List ℕ → List ℕ → ℕ → Bool
row_fits R B i =
    ltb i (col R 0 col_end)
    && leb kind_undefined (col R i col_kind) && leb (col R i col_kind) kind_reference
    && mark_fits B (col R i col_key_mark) (col R i col_key_begin) (col R i col_key_size)
    && columns_fit R B i (col R i col_kind) && value_fits R i (col R i col_kind)
    && leb (col R i col_end) (rows_in R)

-- 14, but for an empty key where it is given another
unfoldable pub row_writable : List ℕ → List ℕ → ℕ → Bool
row_writable R B i = number_writable R i (col R i col_kind) && body_writable R B i (col R i col_kind) && valid_text (key_text R B i)

-- a span of the store is a text
abbrev pub is_valid : List ℕ → Span → Type 0
is_valid B s = valid_text (part B s.begin s.size) ≡ true

-- what is known are texts
abbrev pub Valid : List ℕ → Known → Type 0
Valid B known = is_valid B known.key × is_valid B known.body

-- the last key that was judged, behind row i
unfoldable pub last_key : List ℕ → ℕ → Span → Span
last_key R i known = cond (eqb (col R i col_key_size) 0) known (span (col R i col_key_begin) (col R i col_key_size))

-- the last body or class that was judged as a text, behind row i
unfoldable pub last_body : List ℕ → ℕ → Span → Span
last_body R i known =
    cond (has_text (col R i col_kind)) (span (col R i col_body_begin) (col R i col_body_size))
    (cond (has_class (col R i col_kind) && eqb (col R i col_class_mark) 1) (span (col R i col_body_begin) (col R i col_body_size)) known)

-- ---- a row and its children

-- n, or `most` where that is less
unfoldable pub capped : ℕ → ℕ → ℕ
capped most n = min n most

-- what a row of this kind and count gives to its child number j
unfoldable pub gives_by : ℕ → ℕ → ℕ → Given
gives_by kind count j =
    cond (eqb kind kind_array) (cond (ltb j count) full_key keyless) (cond (eqb kind kind_object) (cond (ltb j count) any_key full_key) keyless)

-- row k has another mark than it is given
unfoldable pub is_wrong : List ℕ → ℕ → Given → Bool
is_wrong R k g = not (eqb (col R k col_key_mark) (mark_of g))

-- row k has an empty key, and is given one that is not
unfoldable pub is_empty : List ℕ → ℕ → Given → Bool
is_empty R k g = is_filled g && eqb (col R k col_key_size) 0

-- the least faulty row so far, where row k is faulty or not
unfoldable pub lower : Bool → ℕ → ℕ → ℕ
lower bad k l = cond bad (min l k) l

abbrev pub least : ℕ → ℕ → Least
least w e = record { wrong = w; empty = e }

-- the least rows, with row k looked at, which is given g
abbrev pub with_row : List ℕ → ℕ → Given → Least → Least
with_row R k g l = least (lower (is_wrong R k g) k l.wrong) (lower (is_empty R k g) k l.empty)

-- n children from row k on, the first number j, and the least rows behind them; none where they don't end at `stop`
unfoldable pub walk : List ℕ → ℕ → ℕ → ℕ → ℕ → ℕ → ℕ → Least → Option Least
walk R kind count stop k j zero l = cond (eqb k stop) (Some l) None
walk R kind count stop k j (suc n) l =
    cond (ltb k (col R k col_end) && leb (col R k col_end) stop)
    (walk R kind count stop (col R k col_end) (suc j) n (with_row R k (gives_by kind count j) l))
    None

-- all children of row i
unfoldable pub walk_of : List ℕ → ℕ → Least → Option Least
walk_of R i l = walk R (col R i col_kind) (col R i col_count) (col R i col_end) (suc i) 0 (children R i) l

-- ---- all rows

abbrev pub on_walk : Option Least → (Least → Tested) → Tested → Tested
on_walk (Some l) f broken = f l
on_walk None f broken = broken

-- n rows from row i
unfoldable pub pass : List ℕ → List ℕ → ℕ → ℕ → Least → Tested
pass R B i zero l = fine
pass R B i (suc n) l =
    cond (eqb l.wrong i) (faulty 13 i)
    (cond (row_fits R B i)
    (on_walk (walk_of R i l)
    (λ x. cond (eqb l.empty i) (faulty 14 i) (cond (row_writable R B i) (pass R B (suc i) n x) (faulty 14 i)))
    (faulty 13 i))
    (faulty 13 i))

-- from the first; a root is given no key
unfoldable pub passed : List ℕ → List ℕ → Tested
passed R B = cond (eqb (rows_in R) 0) (faulty 13 0) (pass R B 0 (rows_in R) (with_row R 0 keyless (least (rows_in R) (rows_in R))))
