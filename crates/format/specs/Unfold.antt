-- The unfolded tree of a row: each reference is its target's whole tree. Total on any rows; it means something on rows that pass 13.
use Rattle.std.specs.Prelude.{Bool, cond, not, List, [], ◌∷◌, ℕ, zero, suc, ◌+◌, eqb, get_or, take, drop}
use Rattle.std.proofs.Math.Option.{Option, none, some}
use Rattle.rows.specs.Memory.{col_kind, col_key_begin, col_key_size, col_body_begin, col_body_size, col_class_mark, col_flag, col_number, col_count, col_count2}
use Rattle.rows.specs.Memory.{col_end, rows_in, col}
use Rattle.rows.specs.Kinds.{kind_reference}
use Rattle.wire.specs.Sign.{of_column}
use Rattle.format.specs.Standard.{undefined, null, boolean, integer, double, string, xml_document, xml, byte_array, date, int_vector, uint_vector}
use Rattle.format.specs.Standard.{double_vector, Tree, plain, array, object, object_vector, dictionary, Trees, nil, cons, Pairs, no_pairs, pair, Entries}
use Rattle.format.specs.Standard.{no_entries, entry}

-- a part of the store, as far as it is there
unfoldable pub part : List ℕ → ℕ → ℕ → List ℕ
part B begin size = take size (drop begin B)

abbrev pub body_of : List ℕ → List ℕ → ℕ → List ℕ
body_of R B i = part B (col R i col_body_begin) (col R i col_body_size)

abbrev pub key_text : List ℕ → List ℕ → ℕ → List ℕ
key_text R B i = part B (col R i col_key_begin) (col R i col_key_size)

abbrev pub class_text : List ℕ → List ℕ → ℕ → Option (List ℕ)
class_text R B i = cond (eqb (col R i col_class_mark) 0) none (some (body_of R B i))

abbrev pub flag_set : List ℕ → ℕ → Bool
flag_set R i = not (eqb (col R i col_flag) 0)

-- the row that stands for a row
unfoldable pub home : List ℕ → ℕ → ℕ
home R i = cond (eqb (col R i col_kind) kind_reference) (col R i col_number) i

-- ---- the children from row k on, n of them, each beginning where the one before ends; f gives a row's tree

-- the row after n of them
unfoldable pub after : List ℕ → ℕ → ℕ → ℕ
after R k zero = k
after R k (suc n) = after R (col R k col_end) n

unfoldable pub trees_at : (ℕ → Tree) → List ℕ → ℕ → ℕ → Trees
trees_at f R k zero = nil
trees_at f R k (suc n) = cons (f k) (trees_at f R (col R k col_end) n)

unfoldable pub pairs_at : (ℕ → Tree) → List ℕ → List ℕ → ℕ → ℕ → Pairs
pairs_at f R B k zero = no_pairs
pairs_at f R B k (suc n) = pair (key_text R B k) (f k) (pairs_at f R B (col R k col_end) n)

unfoldable pub entries_at : (ℕ → Tree) → List ℕ → ℕ → ℕ → Entries
entries_at f R k zero = no_entries
entries_at f R k (suc n) = entry (f k) (f (col R k col_end)) (entries_at f R (col R (col R k col_end) col_end) n)

-- ---- a row's tree

-- by its kind; 0 is none
unfoldable pub node : (ℕ → Tree) → List ℕ → List ℕ → ℕ → Tree
node f R B i =
    get_or (plain null
    ∷ plain undefined
    ∷ plain null
    ∷ plain (boolean (not (eqb (col R i col_number) 0)))
    ∷ plain (integer (of_column (col R i col_number)))
    ∷ plain (double (col R i col_number))
    ∷ plain (string (body_of R B i))
    ∷ plain (xml_document (body_of R B i))
    ∷ plain (date (col R i col_number))
    ∷ array (pairs_at f R B (i + 1) (col R i col_count)) (trees_at f R (after R (i + 1) (col R i col_count)) (col R i col_count2))
    ∷ object (class_text R B i) (pairs_at f R B (i + 1) (col R i col_count)) (pairs_at f R B (after R (i + 1) (col R i col_count)) (col R i col_count2))
    ∷ plain (xml (body_of R B i))
    ∷ plain (byte_array (body_of R B i))
    ∷ plain (int_vector (flag_set R i) (body_of R B i))
    ∷ plain (uint_vector (flag_set R i) (body_of R B i))
    ∷ plain (double_vector (flag_set R i) (body_of R B i))
    ∷ object_vector (flag_set R i) (class_text R B i) (trees_at f R (i + 1) (col R i col_count))
    ∷ dictionary (flag_set R i) (entries_at f R (i + 1) (col R i col_count))
    ∷ []) (col R i col_kind) (plain null)

-- to so many levels
unfoldable pub tree_at : ℕ → List ℕ → List ℕ → ℕ → Tree
tree_at zero R B i = plain null
tree_at (suc levels) R B i = node (tree_at levels R B) R B (home R i)

-- to all: rows that pass 13 have no more levels than rows
unfoldable pub unfolded : List ℕ → List ℕ → ℕ → Tree
unfolded R B i = tree_at (rows_in R) R B i
