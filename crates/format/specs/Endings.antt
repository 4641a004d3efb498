-- How a writing ends: the pieces of a tree, how deep it nests, and what each answer of write says of it.
use Rattle.std.specs.Prelude.{◌≡◌, List, [], ◌∷◌, ◌++◌, ℕ, suc, max, zero, ◌<◌, ◌≤◌, length, drop}
use Rattle.rows.specs.Memory.{loan_output, open_limit, fault_of, memory, rows_in}
use Rattle.format.specs.Standard.{Tree, plain, array, object, object_vector, dictionary, Trees, nil, cons, Pairs, no_pairs, pair, Entries, no_entries}
use Rattle.format.specs.Standard.{entry, text_bytes, encode_plain, array_head, object_head, vector_head, dictionary_head, encode}
use Rattle.format.specs.Writing.{Wrote, written, unwritten}
use Rattle.format.specs.Unfold.{unfolded}
use Rattle.format.specs.RowTest.{Tested, fine, faulty, tested}
use Rattle.format.specs.Faults.{Malformed, Unwritable}
use Rattle.format.specs.Refusals as no

-- ---- what the bytes of a value are made of, in order: bytes of its own, and the values in it

pub data Piece : Type 0 where
  own : List ℕ → Piece
  child : Tree → Piece

unfoldable pub tree_parts : Trees → List Piece
tree_parts nil = []
tree_parts (cons t ts) = child t ∷ tree_parts ts

unfoldable pub pair_parts : Pairs → List Piece
pair_parts no_pairs = []
pair_parts (pair x t ps) = own (text_bytes x) ∷ child t ∷ pair_parts ps

unfoldable pub value_parts : Pairs → List Piece
value_parts no_pairs = []
value_parts (pair x t ps) = child t ∷ value_parts ps

unfoldable pub dynamic_parts : Pairs → List Piece
dynamic_parts no_pairs = []
dynamic_parts (pair x t ps) = pair_parts (pair x t ps) ++ own (0x01 ∷ []) ∷ []

unfoldable pub entry_parts : Entries → List Piece
entry_parts no_entries = []
entry_parts (entry a b es) = child a ∷ child b ∷ entry_parts es

unfoldable pub parts : Tree → List Piece
parts (plain p) = own (encode_plain p) ∷ []
parts (array xs ts) = own (array_head ts) ∷ pair_parts xs ++ own (0x01 ∷ []) ∷ tree_parts ts
parts (object class xs ys) = own (object_head class xs ys) ∷ value_parts xs ++ dynamic_parts ys
parts (object_vector fixed class ts) = own (vector_head fixed class ts) ∷ tree_parts ts
parts (dictionary weak es) = own (dictionary_head weak es) ∷ entry_parts es

abbrev pub bytes_in : Piece → List ℕ
bytes_in (own bs) = bs
bytes_in (child t) = encode t

-- ---- how deep a value nests: one that holds no others counts 1

unfoldable mutual
  pub depth : Tree → ℕ
  depth (plain p) = 1
  depth (array xs ts) = suc (max (depth_pairs xs) (depth_trees ts))
  depth (object class xs ys) = suc (max (depth_pairs xs) (depth_pairs ys))
  depth (object_vector fixed class ts) = suc (depth_trees ts)
  depth (dictionary weak es) = suc (depth_entries es)

  pub depth_trees : Trees → ℕ
  depth_trees nil = 0
  depth_trees (cons t ts) = max (depth t) (depth_trees ts)

  pub depth_pairs : Pairs → ℕ
  depth_pairs no_pairs = 0
  depth_pairs (pair x t ps) = max (depth t) (depth_pairs ps)

  pub depth_entries : Entries → ℕ
  depth_entries no_entries = 0
  depth_entries (entry a b es) = max (depth a) (max (depth b) (depth_entries es))

-- ---- a value within a value

-- u stands in one of the pieces, where P says so, behind their first bytes x
pub data Among (P : Tree → Tree → List ℕ → Type 0) : List Piece → Tree → List ℕ → Type 0 where
  here : {t u : Tree} {ps : List Piece} {x : List ℕ} → P t u x → Among P (child t ∷ ps) u x
  later : {u : Tree} {ps : List Piece} {x : List ℕ} (p : Piece) → Among P ps u x → Among P (p ∷ ps) u (bytes_in p ++ x)

-- u stands in t with n values open around it, behind its first bytes x
abbrev pub Nested : ℕ → Tree → Tree → List ℕ → Type 0
Nested zero t u x = (t ≡ u) × (x ≡ [])
Nested (suc n) t u x = Among (Nested n) (parts t) u x

-- ---- which row is told

-- a row passes 13 and 14, and so do all before row i
abbrev pub RowPasses : List ℕ → List ℕ → ℕ → Type 0
RowPasses R B i = (Malformed R B i → ⊥) × (Unwritable R B i → ⊥)

abbrev pub AllPass : List ℕ → List ℕ → ℕ → Type 0
AllPass R B i = (j : ℕ) → j < i → RowPasses R B j

-- the test of all rows: there are some and each passes; there are none; or the first that doesn't pass, by 13 or, well formed, by 14
pub data TestSays (R B : List ℕ) : Tested → Type 0 where
  all_pass : 0 < rows_in R → AllPass R B (rows_in R) → TestSays R B fine
  no_rows : rows_in R ≡ 0 → TestSays R B (faulty no.malformed 0)
  first_malformed : {i : ℕ} → i < rows_in R → AllPass R B i → Malformed R B i → TestSays R B (faulty no.malformed i)
  first_unwritable : {i : ℕ} → i < rows_in R → AllPass R B i → (Malformed R B i → ⊥) → Unwritable R B i → TestSays R B (faulty no.unwritable i)

-- ---- how a writing ends

-- a value of t with n values open around it stands behind the bytes x, and none stands behind fewer
pub record First (n : ℕ) (t : Tree) (x : List ℕ) : Type 0 where
  pub value : Tree
  pub nested : Nested n t value x
  pub first : (u : Tree) (y : List ℕ) → Nested n t u y → length x ≤ length y

-- the loans and the rows are not refused
pub record Unrefused (R B : List ℕ) : Type 0 where
  pub lent : fault_of (memory R B [] [] [] []) ≡ 0
  pub rows : tested R B ≡ fine

-- how a writing of the tree t ends
pub data Ends (t : Tree) (out : List ℕ) : Wrote → Type 0 where
  whole : depth t ≤ open_limit → length (encode t) ≤ length out → Ends t out (written (length (encode t)) (encode t ++ drop (length (encode t)) out))
  full : depth t ≤ open_limit → length out < length (encode t) → Ends t out (unwritten no.no_room loan_output (length out) out)
  too_deep : (x : List ℕ) → First open_limit t x → length x ≤ length out → Ends t out (unwritten no.too_deep 0 (length x) out)
  full_before : (x : List ℕ) → First open_limit t x → length out < length x → Ends t out (unwritten no.no_room loan_output (length out) out)

pub data Outcome (R B out : List ℕ) : Wrote → Type 0 where
  fault : (n : ℕ) → fault_of (memory R B [] [] [] []) ≡ suc n → Outcome R B out (unwritten no.bad_loan (suc n) 0 out)
  unfit : (n row : ℕ) → fault_of (memory R B [] [] [] []) ≡ 0 → tested R B ≡ faulty n row → Outcome R B out (unwritten n row 0 out)
  passed : {w : Wrote} → Unrefused R B → Ends (unfolded R B 0) out w → Outcome R B out w

-- n bytes were written, and P is the output after it
pub record Accepted (R B out : List ℕ) (n : ℕ) (P : List ℕ) : Type 0 where
  pub passes : Unrefused R B
  pub shallow : depth (unfolded R B 0) ≤ open_limit
  pub size : n ≡ length (encode (unfolded R B 0))
  pub fits : n ≤ length out
  pub output : P ≡ encode (unfolded R B 0) ++ drop n out
