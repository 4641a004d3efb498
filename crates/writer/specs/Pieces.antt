-- What is written of a row, and of rows one after the other, where so many values may still open.
use Rattle.std.specs.Prelude.{◌≡◌, Bool, cond, List, ℕ, ◌+◌}
use Rattle.rows.specs.Memory.{rows_fault, col_kind, col_count, col_count2, col}
use Rattle.rows.specs.Kinds.{kind_array, kind_object, kind_object_vector, kind_dictionary}
use Rattle.format.specs.Standard.{Tree, name_bytes, object_head, vector_head}
use Rattle.format.specs.Unfold.{class_text, flag_set, after, trees_at, pairs_at, node, tree_at}
use Rattle.format.specs.RowTest.{tested, fine}
use Rattle.format.specs.Writing.{Stream, emit_trees, emit_pairs, emit_in, emit}

-- rows and a store that are not refused
pub record Fit (R B : List ℕ) : Type 0 where
  pub lent : rows_fault R B ≡ 0
  pub rows : tested R B ≡ fine

-- a row that is of this kind, and one that holds no values
pub record Of (kind : ℕ) (R B : List ℕ) (j : ℕ) : Type 0 where
  pub fit : Fit R B
  pub is : col R j col_kind ≡ kind

pub record Plainly (R B : List ℕ) (j : ℕ) : Type 0 where
  pub fit : Fit R B
  pub no-array : col R j col_kind ≡ kind_array → ⊥
  pub no-object : col R j col_kind ≡ kind_object → ⊥
  pub no-vector : col R j col_kind ≡ kind_object_vector → ⊥
  pub no-dictionary : col R j col_kind ≡ kind_dictionary → ⊥

-- ---- a row, the row that stands for it, n rows

abbrev pub value_at : ℕ → List ℕ → List ℕ → ℕ → Stream
value_at left R B i = emit left (tree_at left R B i)

abbrev pub node_at : ℕ → List ℕ → List ℕ → ℕ → Stream
node_at left R B j = emit_in (emit left) (node (tree_at left R B) R B j)

abbrev pub items_at : ℕ → List ℕ → List ℕ → ℕ → ℕ → Stream
items_at left R B k n = emit_trees (emit left) (trees_at (tree_at left R B) R k n)

abbrev pub pairings_at : ℕ → List ℕ → List ℕ → ℕ → ℕ → Stream
pairings_at left R B k n = emit_pairs (emit left) (pairs_at (tree_at left R B) R B k n)

-- n rows: their values, each behind its key where they have keys
abbrev pub members_at : ℕ → Bool → ℕ → ℕ → List ℕ → List ℕ → Stream
members_at left keyed k n R B = cond keyed (pairings_at left R B k n) (items_at left R B k n)

-- ---- what stands before the values in a row: f gives the trees of these, which don't matter

abbrev pub names_at : (ℕ → Tree) → List ℕ → List ℕ → ℕ → ℕ → List ℕ
names_at f R B k n = name_bytes (pairs_at f R B k n)

abbrev pub object_head_at : (ℕ → Tree) → List ℕ → List ℕ → ℕ → List ℕ
object_head_at f R B j =
    object_head (class_text R B j) (pairs_at f R B (j + 1) (col R j col_count)) (pairs_at f R B (after R (j + 1) (col R j col_count)) (col R j col_count2))

abbrev pub vector_head_at : (ℕ → Tree) → List ℕ → List ℕ → ℕ → List ℕ
vector_head_at f R B j = vector_head (flag_set R j) (class_text R B j) (trees_at f R (j + 1) (col R j col_count))
