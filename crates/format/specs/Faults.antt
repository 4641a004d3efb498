-- Why a row is malformed (13), and why one that isn't can't be written (14): document 01's lists, a case for each reason.
use Rattle.std.specs.Prelude.{◌≡◌, true, false, ◌≢◌, List, ℕ, suc, ◌+◌, ◌*◌, ◌^◌, ◌≤◌, ◌<◌, length}
use Rattle.wire.specs.Date.{refused_date}
use Rattle.rows.specs.Memory.{rows_in, col, col_kind, col_key_mark, col_key_begin, col_key_size, col_body_begin, col_body_size, col_class_mark, col_flag, col_number, col_count}
use Rattle.rows.specs.Memory.{col_count2, col_end}
use Rattle.rows.specs.Kinds.{kind_undefined, kind_boolean, kind_integer, kind_date, kind_object, kind_object_vector, kind_int_vector, kind_uint_vector, kind_double_vector, kind_reference}
use Rattle.utf8.specs.Grammar.{valid_text}
use Rattle.format.specs.Standard.{is_star}
use Rattle.format.specs.Unfold.{body_of, key_text}
use Rattle.format.specs.RowTest.{has_text, has_body, has_class, has_flag, has_number, has_count, has_count2, is_object, children, closes, keyless, full_key, given}

-- a span that isn't in the store: past it, or empty and past 0
pub data BadSpan (B : List ℕ) (begin size : ℕ) : Type 0 where
  past : 0 < size → length B < begin + size → BadSpan B begin size
  empty_past : size ≡ 0 → 0 < begin → BadSpan B begin size

-- a mark that is neither 0 nor 1, or a span that its mark doesn't allow
pub data BadMark (B : List ℕ) (mark begin size : ℕ) : Type 0 where
  no_mark : 1 < mark → BadMark B mark begin size
  unmarked : mark ≡ 0 → 0 < begin + size → BadMark B mark begin size
  marked : mark ≡ 1 → BadSpan B begin size → BadMark B mark begin size

-- as a signed number of 64 bits it has more than h + 1 bits
pub data Outside (h n : ℕ) : Type 0 where
  between : 2 ^ h ≤ n → n + 2 ^ h < 2 ^ 64 → Outside h n
  beyond : 2 ^ 64 ≤ n → Outside h n

-- ---- 13

pub data Malformed (R B : List ℕ) (i : ℕ) : Type 0 where
  -- it stands past the end of row 0
  after_root : col R 0 col_end ≤ i → Malformed R B i
  -- an unknown kind
  below_kinds : col R i col_kind < kind_undefined → Malformed R B i
  above_kinds : kind_reference < col R i col_kind → Malformed R B i
  -- the mark of its key, of its class, or its flag; the span of its key, its class or its body
  bad_key : BadMark B (col R i col_key_mark) (col R i col_key_begin) (col R i col_key_size) → Malformed R B i
  bad_class : has_class (col R i col_kind) ≡ true → BadMark B (col R i col_class_mark) (col R i col_body_begin) (col R i col_body_size) → Malformed R B i
  bad_flag : 1 < col R i col_flag → Malformed R B i
  bad_body : has_class (col R i col_kind) ≡ false → BadSpan B (col R i col_body_begin) (col R i col_body_size) → Malformed R B i
  -- a column with no meaning that isn't 0
  no_class : has_class (col R i col_kind) ≡ false → 0 < col R i col_class_mark → Malformed R B i
  no_body : has_class (col R i col_kind) ≡ false → has_body (col R i col_kind) ≡ false → 0 < col R i col_body_size → Malformed R B i
  no_flag : has_flag (col R i col_kind) ≡ false → 0 < col R i col_flag → Malformed R B i
  no_number : has_number (col R i col_kind) ≡ false → 0 < col R i col_number → Malformed R B i
  no_count : has_count (col R i col_kind) ≡ false → 0 < col R i col_count → Malformed R B i
  no_count2 : has_count2 (col R i col_kind) ≡ false → 0 < col R i col_count2 → Malformed R B i
  -- its children don't end where it does, walked by the ends they state; or its end is past the rows
  bad_children : closes R (col R i col_end) (suc i) (children R i) ≡ false → Malformed R B i
  bad_end : rows_in R < col R i col_end → Malformed R B i
  -- a key where it is given none, or none where it is given one
  key_ungiven : given R i ≡ keyless → 0 < col R i col_key_mark → Malformed R B i
  key_missing : given R i ≢ keyless → col R i col_key_mark ≡ 0 → Malformed R B i
  -- a body that isn't 4 or 8 times its count
  bad_ints : col R i col_kind ≡ kind_int_vector → col R i col_body_size ≢ 4 * col R i col_count → Malformed R B i
  bad_uints : col R i col_kind ≡ kind_uint_vector → col R i col_body_size ≢ 4 * col R i col_count → Malformed R B i
  bad_doubles : col R i col_kind ≡ kind_double_vector → col R i col_body_size ≢ 8 * col R i col_count → Malformed R B i
  -- a boolean over 1; an integer of more than 32 bits
  bad_boolean : col R i col_kind ≡ kind_boolean → 1 < col R i col_number → Malformed R B i
  bad_integer : col R i col_kind ≡ kind_integer → Outside 31 (col R i col_number) → Malformed R B i
  -- a target that is no earlier row, isn't ended at or before this one, or is of a kind that enters no table
  later_target : col R i col_kind ≡ kind_reference → i ≤ col R i col_number → Malformed R B i
  open_target : col R i col_kind ≡ kind_reference → i < col R (col R i col_number) col_end → Malformed R B i
  odd_target : col R i col_kind ≡ kind_reference → is_object (col R (col R i col_number) col_kind) ≡ false → Malformed R B i

-- ---- 14

pub data Unwritable (R B : List ℕ) (i : ℕ) : Type 0 where
  -- a text, a given class or a key that isn't valid
  bad_text : has_text (col R i col_kind) ≡ true → valid_text (body_of R B i) ≡ false → Unwritable R B i
  bad_class_text : has_class (col R i col_kind) ≡ true → col R i col_class_mark ≡ 1 → valid_text (body_of R B i) ≡ false → Unwritable R B i
  bad_key_text : valid_text (key_text R B i) ≡ false → Unwritable R B i
  -- an integer of more than 29 bits; a date that isn't finite
  long_integer : col R i col_kind ≡ kind_integer → Outside 28 (col R i col_number) → Unwritable R B i
  no_date : col R i col_kind ≡ kind_date → refused_date (col R i col_number) ≡ true → Unwritable R B i
  -- an empty key of an associative or dynamic pair
  empty_key : given R i ≡ full_key → col R i col_key_size ≡ 0 → Unwritable R B i
  -- a given class that is empty, or that is `*`
  empty_class : col R i col_kind ≡ kind_object → col R i col_class_mark ≡ 1 → col R i col_body_size ≡ 0 → Unwritable R B i
  star_class : col R i col_kind ≡ kind_object_vector → col R i col_class_mark ≡ 1 → is_star (body_of R B i) ≡ true → Unwritable R B i
