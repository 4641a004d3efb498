-- Refusals 13 and 14: which rows are malformed, and which can't be written. The rows are all that there are; the store may be larger than what they use.
use Rattle.std.specs.Prelude.{Bool, true, false, cond, not, ◌&&◌, ◌||◌, List, ℕ, zero, suc, ◌+◌, ◌*◌, ◌-◌, ◌^◌, leb, ltb, eqb, length}
use Rattle.std.proofs.Math.Option.{Option, none, some}
use Rattle.wire.specs.Date.{refused_date}
use Rattle.rows.specs.Memory.{col_kind, col_key_mark, col_key_begin, col_key_size, col_body_begin, col_body_size, col_class_mark, col_flag, col_number, col_count, rows_in, col}
use Rattle.rows.specs.Memory.{col_count2, col_end}
use Rattle.rows.specs.Kinds.{kind_undefined, kind_boolean, kind_integer, kind_double, kind_string, kind_xml_document, kind_date, kind_array, kind_object, kind_xml}
use Rattle.rows.specs.Kinds.{kind_byte_array, kind_int_vector, kind_double_vector, kind_object_vector, kind_dictionary, kind_reference}
use Rattle.utf8.specs.Grammar.{valid_text}
use Rattle.format.specs.Refusals as no
use Rattle.format.specs.Standard.{is_star}
use Rattle.format.specs.Unfold.{body_of, key_text}

-- ---- which columns a kind has

abbrev pub has_text : ℕ → Bool
has_text kind = eqb kind kind_string || eqb kind kind_xml_document || eqb kind kind_xml

abbrev pub is_raw : ℕ → Bool
is_raw kind = leb kind_int_vector kind && leb kind kind_double_vector

abbrev pub has_body : ℕ → Bool
has_body kind = has_text kind || eqb kind kind_byte_array || is_raw kind

abbrev pub has_class : ℕ → Bool
has_class kind = eqb kind kind_object || eqb kind kind_object_vector

abbrev pub has_flag : ℕ → Bool
has_flag kind = leb kind_int_vector kind && leb kind kind_dictionary

abbrev pub has_number : ℕ → Bool
has_number kind = leb kind_boolean kind && leb kind kind_double || eqb kind kind_date || eqb kind kind_reference

abbrev pub has_count2 : ℕ → Bool
has_count2 kind = eqb kind kind_array || eqb kind kind_object

abbrev pub has_count : ℕ → Bool
has_count kind = has_count2 kind || has_flag kind

-- those that enter the objects table
abbrev pub is_object : ℕ → Bool
is_object kind = leb kind_xml_document kind && leb kind kind_dictionary

-- ---- one row by itself

-- an empty span begins at 0; another ends within the store
unfoldable pub span_fits : List ℕ → ℕ → ℕ → Bool
span_fits B begin size = cond (eqb size 0) (eqb begin 0) (leb (begin + size) (length B))

-- a mark is 0, with no span, or 1
unfoldable pub mark_fits : List ℕ → ℕ → ℕ → ℕ → Bool
mark_fits B mark begin size = cond (eqb mark 0) (eqb begin 0 && eqb size 0) (eqb mark 1 && span_fits B begin size)

-- a column with no meaning is 0
abbrev pub meant : Bool → ℕ → Bool
meant has v = has || eqb v 0

unfoldable pub columns_fit : List ℕ → List ℕ → ℕ → ℕ → Bool
columns_fit R B i kind =
    cond (has_class kind) (mark_fits B (col R i col_class_mark) (col R i col_body_begin) (col R i col_body_size))
    (eqb (col R i col_class_mark) 0 && meant (has_body kind) (col R i col_body_size) && span_fits B (col R i col_body_begin) (col R i col_body_size))
    && meant (has_flag kind) (col R i col_flag) && leb (col R i col_flag) 1
    && meant (has_number kind) (col R i col_number) && meant (has_count kind) (col R i col_count) && meant (has_count2 kind) (col R i col_count2)

-- a column of 64 bits as a signed number of h + 1 bits
unfoldable pub signed_fits : ℕ → ℕ → Bool
signed_fits h n = ltb n (2 ^ h) || (leb (2 ^ 64 - 2 ^ h) n && ltb n (2 ^ 64))

-- what a kind asks of its number, or of its body's length
unfoldable pub value_fits : List ℕ → ℕ → ℕ → Bool
value_fits R i kind =
    cond (eqb kind kind_boolean) (leb (col R i col_number) 1)
    (cond (eqb kind kind_integer) (signed_fits 31 (col R i col_number))
    (cond (eqb kind kind_double_vector) (eqb (col R i col_body_size) (8 * col R i col_count))
    (cond (is_raw kind) (eqb (col R i col_body_size) (4 * col R i col_count))
    (cond (eqb kind kind_reference)
    (ltb (col R i col_number) i && leb (col R (col R i col_number) col_end) i && is_object (col R (col R i col_number) col_kind))
    true))))

-- ---- a row and its children

-- how many children a row has
unfoldable pub children : List ℕ → ℕ → ℕ
children R i =
    cond (has_count2 (col R i col_kind)) (col R i col_count + col R i col_count2)
    (cond (eqb (col R i col_kind) kind_object_vector) (col R i col_count) (cond (eqb (col R i col_kind) kind_dictionary) (2 * col R i col_count) 0))

-- n children from row k, walked by the ends that they state, end at `stop`
unfoldable pub closes : List ℕ → ℕ → ℕ → ℕ → Bool
closes R stop k zero = eqb k stop
closes R stop k (suc n) = ltb k (col R k col_end) && leb (col R k col_end) stop && closes R stop (col R k col_end) n

-- what a row is given: no key, a key, a key that is not empty
pub data Given : Type 0 where
  keyless any_key full_key : Given

-- by row p, to its child number j
unfoldable pub gives : List ℕ → ℕ → ℕ → Given
gives R p j =
    cond (eqb (col R p col_kind) kind_array) (cond (ltb j (col R p col_count)) full_key keyless)
    (cond (eqb (col R p col_kind) kind_object) (cond (ltb j (col R p col_count)) any_key full_key) keyless)

-- the parent of row i among the first p rows: the last of them whose end is past it
unfoldable pub parent_in : List ℕ → ℕ → ℕ → Option ℕ
parent_in R zero i = none
parent_in R (suc p) i = cond (ltb i (col R p col_end)) (some p) (parent_in R p i)

-- which child row i is among n from row k on, walked by their ends, the first of them number j
unfoldable pub number_in : List ℕ → ℕ → ℕ → ℕ → ℕ → ℕ
number_in R i k j zero = j
number_in R i k j (suc n) = cond (eqb k i) j (number_in R i (col R k col_end) (suc j) n)

-- to row i by its parent, if it has one
abbrev pub given_by : List ℕ → ℕ → Option ℕ → Given
given_by R i none = keyless
given_by R i (some p) = gives R p (number_in R i (suc p) 0 (children R p))

-- to row i; a root is given none
unfoldable pub given : List ℕ → ℕ → Given
given R i = given_by R i (parent_in R i i)

-- the key's mark that it asks
abbrev pub mark_of : Given → ℕ
mark_of keyless = 0
mark_of any_key = 1
mark_of full_key = 1

-- whether it asks a key that is not empty
abbrev pub is_filled : Given → Bool
is_filled keyless = false
is_filled any_key = false
is_filled full_key = true

-- ---- the refusals

-- 13: not so of row i, or it is past the end of row 0
unfoldable pub well_formed : List ℕ → List ℕ → ℕ → Bool
well_formed R B i =
    ltb i (col R 0 col_end)
    && leb kind_undefined (col R i col_kind) && leb (col R i col_kind) kind_reference
    && mark_fits B (col R i col_key_mark) (col R i col_key_begin) (col R i col_key_size)
    && columns_fit R B i (col R i col_kind) && value_fits R i (col R i col_kind)
    && leb (col R i col_end) (rows_in R) && closes R (col R i col_end) (suc i) (children R i)
    && eqb (col R i col_key_mark) (mark_of (given R i))

-- 14: not so of a row that is well formed, by its number, its body or class, and its key
unfoldable pub number_writable : List ℕ → ℕ → ℕ → Bool
number_writable R i kind =
    cond (eqb kind kind_integer) (signed_fits 28 (col R i col_number)) (cond (eqb kind kind_date) (not (refused_date (col R i col_number))) true)

unfoldable pub body_writable : List ℕ → List ℕ → ℕ → ℕ → Bool
body_writable R B i kind =
    cond (has_text kind) (valid_text (body_of R B i))
    (cond (has_class kind && eqb (col R i col_class_mark) 1)
    (valid_text (body_of R B i) && cond (eqb kind kind_object) (ltb 0 (col R i col_body_size)) (not (is_star (body_of R B i))))
    true)

unfoldable pub key_writable : List ℕ → List ℕ → ℕ → Bool
key_writable R B i = valid_text (key_text R B i) && (ltb 0 (col R i col_key_size) || not (is_filled (given R i)))

unfoldable pub writable : List ℕ → List ℕ → ℕ → Bool
writable R B i = number_writable R i (col R i col_kind) && body_writable R B i (col R i col_kind) && key_writable R B i

-- all rows pass; or the least faulty one, 13 before 14
pub data Tested : Type 0 where
  fine : Tested
  faulty : ℕ → ℕ → Tested

-- n rows from row i
unfoldable pub test_from : List ℕ → List ℕ → ℕ → ℕ → Tested
test_from R B i zero = fine
test_from R B i (suc n) = cond (well_formed R B i) (cond (writable R B i) (test_from R B (suc i) n) (faulty no.unwritable i)) (faulty no.malformed i)

-- no rows: 13, row 0
unfoldable pub tested : List ℕ → List ℕ → Tested
tested R B = cond (eqb (rows_in R) 0) (faulty no.malformed 0) (test_from R B 0 (rows_in R))
