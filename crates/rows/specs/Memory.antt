-- The lent memory of a reading: six loans as lists of numbers, and a cursor that says how much of each is used.
use Rattle.std.specs.Prelude.{Bool, cond, not, ◌&&◌, ◌||◌, List, [], ◌∷◌, ℕ, ◌+◌, ◌*◌, ◌/◌, ◌%◌, leb, ltb, eqb, length, get_or, set, replicate}
use Rattle.std.proofs.lemmas.List.Edits.{sets}
use Rattle.std.specs.Borrow.{MutBor}
use denote.Triple.Both.{Both}
use Rattle.rows.specs.declared.Cursor.{Cursor}
use Rattle.rows.specs.declared.Span.{Span}
use Rattle.rows.specs.declared.Key.{Key}
use Rattle.rows.specs.declared.Row.{Row}

-- ---- limits

-- Two limits have two names: the number, and the limit, which proofs open only where they say so.

-- bytes of a message
abbrev pub message_most : ℕ
message_most = 262144

unfoldable pub message_limit : ℕ
message_limit = message_most

-- values open at once
abbrev pub open_most : ℕ
open_most = 64

unfoldable pub open_limit : ℕ
open_limit = open_most

-- entries of each loan
abbrev pub rows_most : ℕ
rows_most = 16384

abbrev pub store_most : ℕ
store_most = 65536

abbrev pub strings_most : ℕ
strings_most = 4096

abbrev pub objects_most : ℕ
objects_most = 4096

abbrev pub traits_most : ℕ
traits_most = 256

abbrev pub names_most : ℕ
names_most = 4096

-- ---- numbers per entry

abbrev pub row_width : ℕ
row_width = 12

abbrev pub span_width : ℕ
span_width = 2

abbrev pub trait_width : ℕ
trait_width = 5

-- ---- the columns of a row

abbrev pub col_kind : ℕ
col_kind = 0

abbrev pub col_key_mark : ℕ
col_key_mark = 1

abbrev pub col_key_begin : ℕ
col_key_begin = 2

abbrev pub col_key_size : ℕ
col_key_size = 3

abbrev pub col_body_begin : ℕ
col_body_begin = 4

abbrev pub col_body_size : ℕ
col_body_size = 5

abbrev pub col_class_mark : ℕ
col_class_mark = 6

abbrev pub col_flag : ℕ
col_flag = 7

abbrev pub col_number : ℕ
col_number = 8

abbrev pub col_count : ℕ
col_count = 9

abbrev pub col_count2 : ℕ
col_count2 = 10

abbrev pub col_end : ℕ
col_end = 11

-- ---- the loans, by number; the output counts as the seventh

abbrev pub loan_rows : ℕ
loan_rows = 1

abbrev pub loan_store : ℕ
loan_store = 2

abbrev pub loan_strings : ℕ
loan_strings = 3

abbrev pub loan_objects : ℕ
loan_objects = 4

abbrev pub loan_traits : ℕ
loan_traits = 5

abbrev pub loan_names : ℕ
loan_names = 6

abbrev pub loan_output : ℕ
loan_output = 7

pub record Memory : Type 0 where
  pub rows : List ℕ
  pub store : List ℕ
  pub strings : List ℕ
  pub objects : List ℕ
  pub traits : List ℕ
  pub names : List ℕ

-- a loan of n numbers, w to an entry, is over its maximum or not whole entries
abbrev pub faulty : ℕ → ℕ → ℕ → Bool
faulty most w n = ltb (most * w) n || not (eqb (n % w) 0)

-- refusal 1: the lowest faulty loan, 0 where there is none
unfoldable pub loan_fault : ℕ → ℕ → ℕ → ℕ → ℕ → ℕ → ℕ
loan_fault rows store strings objects traits names =
    cond (faulty rows_most row_width rows) loan_rows
    (cond (faulty store_most 1 store) loan_store
    (cond (faulty strings_most span_width strings) loan_strings
    (cond (faulty objects_most 1 objects) loan_objects
    (cond (faulty traits_most trait_width traits) loan_traits
    (cond (faulty names_most span_width names) loan_names 0)))))

abbrev pub fault_of : Memory → ℕ
fault_of m = loan_fault (length m.rows) (length m.store) (length m.strings) (length m.objects) (length m.traits) (length m.names)

-- rows and a store alone: lent to the writer, and to ask a row for its text or its milliseconds
abbrev pub rows_fault : List ℕ → List ℕ → ℕ
rows_fault R B = loan_fault (length R) (length B) 0 0 0 0

abbrev pub zeros : List ℕ → List ℕ
zeros l = replicate (length l) 0

abbrev pub cursor : ℕ → ℕ → ℕ → ℕ → ℕ → ℕ → ℕ → Cursor
cursor at rows store strings objects traits names =
    record { at = at; rows = rows; store = store; strings = strings; objects = objects; traits = traits; names = names }

-- nothing taken and nothing used
abbrev pub fresh : Cursor
fresh = cursor 0 0 0 0 0 0 0

abbrev pub memory : List ℕ → List ℕ → List ℕ → List ℕ → List ℕ → List ℕ → Memory
memory R B T O U N = record { rows = R; store = B; strings = T; objects = O; traits = U; names = N }

-- a loan of a call: as it is lent and as it comes back
abbrev pub Loan : Type 0
Loan = Both (MutBor (List ℕ)) (MutBor (List ℕ))

-- one that the call isn't lent
abbrev pub kept : List ℕ → Loan
kept l = let r : MutBor (List ℕ) = record { ref_ptr = (0, 0); ghost_name = 0; now = l } in record { entry = r; exit = r }

-- the six loans at the call's entry, and at its exit
abbrev pub at_entry : Loan → Loan → Loan → Loan → Loan → Loan → Memory
at_entry R B T O U N = memory R.entry.now B.entry.now T.entry.now O.entry.now U.entry.now N.entry.now

abbrev pub at_exit : Loan → Loan → Loan → Loan → Loan → Loan → Memory
at_exit R B T O U N = memory R.exit.now B.exit.now T.exit.now O.exit.now U.exit.now N.exit.now

-- every loan set to zero
unfoldable pub zeroed : Memory → Memory
zeroed m = memory (zeros m.rows) (zeros m.store) (zeros m.strings) (zeros m.objects) (zeros m.traits) (zeros m.names)

-- ---- rows and spans

-- how many rows there are
abbrev pub rows_in : List ℕ → ℕ
rows_in R = length R / row_width

-- a column of a row; 0 where the row is not lent
unfoldable pub col : List ℕ → ℕ → ℕ → ℕ
col R i c = cond (ltb i (rows_in R)) (get_or R (i * row_width + c) 0) 0

abbrev pub put : List ℕ → ℕ → ℕ → ℕ → List ℕ
put R row c v = set R (row * row_width + c) v

-- a row's numbers, in the order of the columns
abbrev pub row_numbers : Row → List ℕ
row_numbers v =
    v.kind ∷ v.key.mark ∷ v.key.begin ∷ v.key.size ∷ v.body.begin ∷ v.body.size ∷ v.class ∷ v.flag ∷ v.number ∷ v.count ∷ v.count2 ∷ v.end ∷ []

-- a whole row, where it is lent
unfoldable pub put_row : List ℕ → ℕ → Row → List ℕ
put_row R row v = cond (ltb row (rows_in R)) (sets R (row * row_width) (row_numbers v)) R

abbrev pub key_at : List ℕ → ℕ → Key
key_at R row = record { mark = col R row col_key_mark; begin = col R row col_key_begin; size = col R row col_key_size }

abbrev pub body_at : List ℕ → ℕ → Span
body_at R row = record { begin = col R row col_body_begin; size = col R row col_body_size }

-- a whole row, zero where it is not lent
abbrev pub row_at : List ℕ → ℕ → Row
row_at R row =
    record {
      kind = col R row col_kind;
      key = key_at R row;
      body = body_at R row;
      class = col R row col_class_mark;
      flag = col R row col_flag;
      number = col R row col_number;
      count = col R row col_count;
      count2 = col R row col_count2;
      end = col R row col_end;
    }

-- row is used, and lent
abbrev pub row_used : List ℕ → Cursor → ℕ → Bool
row_used R c row = ltb row c.rows && leb c.rows (rows_in R)

abbrev pub span : ℕ → ℕ → Span
span begin size = record { begin = begin; size = size }

abbrev pub no_span : Span
no_span = span 0 0

abbrev pub no_key : Key
no_key = record { mark = 0; begin = 0; size = 0 }

abbrev pub key_of : Span → Key
key_of s = record { mark = 1; begin = s.begin; size = s.size }

-- span i of a table of spans
abbrev pub span_at : List ℕ → ℕ → Span
span_at T i = span (get_or T (i * span_width) 0) (get_or T (i * span_width + 1) 0)

-- s lies in the used part of the store
abbrev pub span_used : Cursor → Span → Bool
span_used c s = leb (s.begin + s.size) c.store
