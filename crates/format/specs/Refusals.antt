-- The refusals: document 01's numbers, and for each what it tells. Named through the module: `no.too_deep`.
use Rattle.std.specs.Prelude.{Bool, cond, ◌&&◌, ◌||◌, ℕ, ◌^◌, leb, ltb, eqb}
use Rattle.wire.specs.Date.{refused_date}
use Rattle.rows.specs.Memory.{message_most, objects_most, loan_rows, loan_names}

-- ---- the numbers

-- a loan is over its maximum or not whole entries
abbrev pub bad_loan : ℕ
bad_loan = 1

-- the bytes end before the value
abbrev pub unexpected_end : ℕ
unexpected_end = 2

-- a marker above 11 hex
abbrev pub bad_marker : ℕ
bad_marker = 3

-- a reference past its table
abbrev pub no_entry : ℕ
no_entry = 4

-- a reference to an object still open
abbrev pub open_object : ℕ
open_object = 5

-- an externalizable class
abbrev pub externalizable : ℕ
externalizable = 6

-- a date that is NaN or infinite
abbrev pub bad_date : ℕ
bad_date = 7

-- text that is not valid
abbrev pub bad_text : ℕ
bad_text = 8

-- a value with as many open around it as can be
abbrev pub too_deep : ℕ
too_deep = 9

-- no room in a loan, or in the output
abbrev pub no_room : ℕ
no_room = 10

-- a byte past the limit is needed
abbrev pub too_long : ℕ
too_long = 11

-- the state doesn't hold together
abbrev pub lost : ℕ
lost = 12

-- a row is malformed
abbrev pub malformed : ℕ
malformed = 13

-- a row can't be written
abbrev pub unwritable : ℕ
unwritable = 14

-- ---- each refusal, with what it tells

-- a case for each number, with the values that are told: a loan, a marker, an index, bits or a row, and the place
pub data Refusal : Type 0 where
  faulty_loan : (loan : ℕ) → Refusal
  ended_bytes : (place : ℕ) → Refusal
  unknown_marker : (byte place : ℕ) → Refusal
  missing_entry unfinished_object : (index place : ℕ) → Refusal
  external_class : (place : ℕ) → Refusal
  refused_bits : (bits place : ℕ) → Refusal
  invalid_text deep_value : (place : ℕ) → Refusal
  full_loan : (loan place : ℕ) → Refusal
  long_message lost_state : Refusal
  malformed_row unwritable_row : (row : ℕ) → Refusal

abbrev pub number_of : Refusal → ℕ
number_of (faulty_loan loan) = bad_loan
number_of (ended_bytes place) = unexpected_end
number_of (unknown_marker b place) = bad_marker
number_of (missing_entry i place) = no_entry
number_of (unfinished_object i place) = open_object
number_of (external_class place) = externalizable
number_of (refused_bits bits place) = bad_date
number_of (invalid_text place) = bad_text
number_of (deep_value place) = too_deep
number_of (full_loan loan place) = no_room
number_of long_message = too_long
number_of lost_state = lost
number_of (malformed_row row) = malformed
number_of (unwritable_row row) = unwritable

abbrev pub told_of : Refusal → ℕ
told_of (faulty_loan loan) = loan
told_of (ended_bytes place) = 0
told_of (unknown_marker b place) = b
told_of (missing_entry i place) = i
told_of (unfinished_object i place) = i
told_of (external_class place) = 0
told_of (refused_bits bits place) = bits
told_of (invalid_text place) = 0
told_of (deep_value place) = 0
told_of (full_loan loan place) = loan
told_of long_message = 0
told_of lost_state = 0
told_of (malformed_row row) = row
told_of (unwritable_row row) = row

abbrev pub place_of : Refusal → ℕ
place_of (faulty_loan loan) = 0
place_of (ended_bytes place) = place
place_of (unknown_marker b place) = place
place_of (missing_entry i place) = place
place_of (unfinished_object i place) = place
place_of (external_class place) = place
place_of (refused_bits bits place) = place
place_of (invalid_text place) = place
place_of (deep_value place) = place
place_of (full_loan loan place) = place
place_of long_message = message_most
place_of lost_state = 0
place_of (malformed_row row) = 0
place_of (unwritable_row row) = 0

-- ---- what a reading can say

-- a loan of a reading
abbrev pub is_loan : ℕ → Bool
is_loan loan = leb loan_rows loan && leb loan loan_names

-- what refusal n, which a byte decided, tells
unfoldable pub tells : ℕ → ℕ → Bool
tells n told =
    cond (eqb n bad_marker) (ltb 0x11 told && ltb told (2 ^ 8))
    (cond (eqb n no_entry) (ltb told (2 ^ 28))
    (cond (eqb n open_object) (ltb told objects_most)
    (cond (eqb n bad_date) (ltb told (2 ^ 64) && refused_date told)
    (cond (eqb n no_room) (is_loan told)
    ((eqb n externalizable || eqb n bad_text || eqb n too_deep) && eqb told 0)))))

-- whether number, told value and place lie in the ranges of a reading's refusals
unfoldable pub sayable : ℕ → ℕ → ℕ → Bool
sayable n told place =
    cond (eqb n bad_loan) (is_loan told && eqb place 0)
    (cond (eqb n unexpected_end) (eqb told 0)
    (cond (eqb n too_long) (eqb told 0 && eqb place message_most)
    (cond (eqb n lost) (eqb told 0 && eqb place 0)
    (tells n told && leb 1 place && leb place message_most))))
