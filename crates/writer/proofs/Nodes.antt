-- The bytes of a row that holds values, by its kind, and of a row that stands for another.
use mathlib.Core.Path.{◌≡◌, refl, sym, ap}
use mathlib.Core.Bool.{true, false, cond, not}
use mathlib.Core.List.{List, [], ◌∷◌, ◌++◌}
use Prim.Native.Nat.{ℕ, zero, suc, ◌+◌, ◌*◌, ◌-◌}
use native.Mathlib.Omega.{arith}
use lib.Dec.{eqb}
use Rattle.rows.specs.Memory.{col_kind, col_flag, col_count, col_count2, col}
use Rattle.rows.specs.Kinds.{kind_array, kind_object, kind_object_vector, kind_dictionary}
use Rattle.wire.specs.U29.{u29}
use Rattle.format.specs.Standard.{Tree, size_bytes, flag_byte, class_bytes, array_head, object_head, vector_head, dictionary_head}
use Rattle.format.specs.Unfold.{class_text, home, after, trees_at, pairs_at, node, tree_at}
use Rattle.format.specs.Writing.{Stream, deep, ◌then◌, these, emit_trees, emit_pairs, emit_dynamic, emit_in, emit}
use Rattle.format.proofs.Unfolded.{trees-count, entries-count}
use Rattle.std.specs.Prelude.{Result, Ok, Err}
use Rattle.writer.specs.declared.Stop.{Stop}
use Rattle.writer.specs.declared.Stop.TheVariants.{TooDeep}
use Rattle.writer.specs.declared.Writer.{Writer}
use Rattle.writer.specs.Run.{Writes}
use Rattle.writer.specs.Pieces.{Of, value_at, node_at, members_at, names_at, object_head_at, vector_head_at}
use Rattle.writer.proofs.Streams.{renamed, nothing, too-deep}
use Rattle.writer.proofs.Bytes.{raw-bytes}
use Rattle.writer.proofs.Lists.{values-items, entries-items, word-is, dynamic-none, dynamic-some}

-- the dynamic members of a row
abbrev pub dynamic_at : ℕ → ℕ → ℕ → List ℕ → List ℕ → Stream
dynamic_at left k m R B = emit_dynamic (emit left) (pairs_at (tree_at left R B) R B k m)

-- ---- the pieces of a row, n its first count; F writes a tree, f gives a row's

module _ (R B : List ℕ) (j : ℕ) (f : ℕ → Tree) {n : ℕ} (e : n ≡ col R j col_count) where
  module _ (F : Tree → Stream) where
    module _ {m : ℕ} (g : m ≡ col R j col_count2) where
      pub array-is : col R j col_kind ≡ kind_array → emit_in F (node f R B j)
          ≡ these (0x09 ∷ size_bytes m) then emit_pairs F (pairs_at f R B (j + 1) n) then these (0x01 ∷ []) then emit_trees F (trees_at f R (after R (j + 1) n) m)
      unfolding emit_in node array_head
      array-is h = rw (h, ← e, ← g, trees-count f R (after R (j + 1) n) m)

      pub object-is : col R j col_kind ≡ kind_object → emit_in F (node f R B j)
          ≡ these (object_head_at f R B j) then emit_trees F (trees_at f R (j + 1) n) then emit_dynamic F (pairs_at f R B (after R (j + 1) n) m)
      unfolding emit_in node
      object-is h = rw (h, ← e, ← g, values-items F f R B (j + 1) n)

    pub vector-is : col R j col_kind ≡ kind_object_vector → emit_in F (node f R B j) ≡ these (vector_head_at f R B j) then emit_trees F (trees_at f R (j + 1) n)
    unfolding emit_in node
    vector-is h = rw (h, ← e)

    pub dictionary-is : {w : ℕ} → col R j col_kind ≡ kind_dictionary → w ≡ col R j col_flag → emit_in F (node f R B j)
        ≡ these (0x11 ∷ size_bytes n ++ flag_byte (not (eqb w 0)) ∷ []) then emit_trees F (trees_at f R (j + 1) (n * 2))
    unfolding emit_in node dictionary_head
    dictionary-is h w =
        rw (h, ← e, ← w, entries-count f R (j + 1) n, entries-items F f R (j + 1) n)

  -- ---- what stands before the values

  pub object-head : {m w : ℕ} → m ≡ col R j col_count2 → w ≡ cond (eqb m 0) (n * 16 + 3) (n * 16 + 11)
      → object_head_at f R B j ≡ (0x0A ∷ u29 w) ++ class_bytes [] (class_text R B j) ++ names_at f R B (j + 1) n
  unfolding object_head
  object-head {m} g h =
      rw (← e, ← g, h, word-is f R B (j + 1) n (after R (j + 1) n) m)

  pub vector-head : {w : ℕ} → w ≡ col R j col_flag
      → vector_head_at f R B j ≡ (0x10 ∷ size_bytes n ++ flag_byte (not (eqb w 0)) ∷ []) ++ class_bytes (0x2A ∷ []) (class_text R B j)
  unfolding vector_head
  vector-head {w} h =
      rw (
        ← e,
        ← h,
        trees-count f R (j + 1) n,
        raw-bytes 0x10 (flag_byte (not (eqb w 0))) (size_bytes n) (class_bytes (0x2A ∷ []) (class_text R B j)),
      )

-- ---- a value

pub value-deep : (l : ℕ) (R B : List ℕ) (i : ℕ) → l ≡ 0 → deep ≡ value_at l R B i
unfolding emit
value-deep l R B i h = rw h

pub value-node : (l : ℕ) (R B : List ℕ) (i : ℕ) {j : ℕ} → (l ≡ 0 → ⊥) → j ≡ home R i → node_at (l - 1) R B j ≡ value_at l R B i
unfolding emit tree_at
value-node zero R B i h e = absurd (h refl)
value-node (suc l) R B i h e = let z : suc l - 1 ≡ l = omega arith in rw (z, e)

-- ---- what is written of a row, by its pieces

module _ {o n : Writer} {r : Result (Unit {0}) Stop} (left j : ℕ) {count : ℕ} (e : count ≡ col o.table.rows.now j col_count) where
  module _ {m : ℕ} (g : m ≡ col o.table.rows.now j col_count2) {k : ℕ} (h : k ≡ after o.table.rows.now (j + 1) count) where
    pub array-by : Of kind_array o.table.rows.now o.table.store.now j
        → Writes r o n (λ R B. these (0x09 ∷ size_bytes m) then members_at left true (j + 1) count R B then these (0x01 ∷ []) then members_at left false k m R B)
        → Writes r o n (λ R B. node_at left R B j)
    array-by c = renamed _ _ (rw h (sym (array-is o.table.rows.now o.table.store.now j (tree_at left o.table.rows.now o.table.store.now) e (emit left) g c.is)))

    pub object-by : Of kind_object o.table.rows.now o.table.store.now j
        → Writes r o n (λ R B. these (object_head_at (tree_at left o.table.rows.now o.table.store.now) R B j) then members_at left false (j + 1) count R B
        then dynamic_at left k m R B)
        → Writes r o n (λ R B. node_at left R B j)
    object-by c = renamed _ _ (rw h (sym (object-is o.table.rows.now o.table.store.now j (tree_at left o.table.rows.now o.table.store.now) e (emit left) g c.is)))

  pub vector-by : Of kind_object_vector o.table.rows.now o.table.store.now j
      → Writes r o n (λ R B. these (vector_head_at (tree_at left o.table.rows.now o.table.store.now) R B j) then members_at left false (j + 1) count R B)
      → Writes r o n (λ R B. node_at left R B j)
  vector-by c = renamed _ _ (sym (vector-is o.table.rows.now o.table.store.now j (tree_at left o.table.rows.now o.table.store.now) e (emit left) c.is))

  pub dictionary-by : {w : ℕ} → w ≡ col o.table.rows.now j col_flag → Of kind_dictionary o.table.rows.now o.table.store.now j
      → Writes r o n (λ R B. these (0x11 ∷ size_bytes count ++ flag_byte (not (eqb w 0)) ∷ []) then members_at left false (j + 1) (count * 2) R B)
      → Writes r o n (λ R B. node_at left R B j)
  dictionary-by w c = renamed _ _ (sym (dictionary-is o.table.rows.now o.table.store.now j (tree_at left o.table.rows.now o.table.store.now) e (emit left) c.is w))

-- the dynamic members: none, or with the end of their pairs
module _ {o : Writer} (left k m : ℕ) where
  pub no-dynamic : m ≡ 0 → Writes (Ok tt) o o (dynamic_at left k m)
  no-dynamic h = nothing o (dynamic-none (emit left) (tree_at left o.table.rows.now o.table.store.now) o.table.rows.now o.table.store.now k m h)

  pub dynamic-by : {n : Writer} {r : Result (Unit {0}) Stop} → (m ≡ 0 → ⊥)
      → Writes r o n (λ R B. members_at left true k m R B then these (0x01 ∷ [])) → Writes r o n (dynamic_at left k m)
  dynamic-by h = renamed _ _ (sym (dynamic-some (emit left) (tree_at left o.table.rows.now o.table.store.now) o.table.rows.now o.table.store.now k m h))

-- the heads
module _ {o n : Writer} {r : Result (Unit {0}) Stop} (f : ℕ → Tree) (j : ℕ) {count : ℕ} (e : count ≡ col o.table.rows.now j col_count) where
  pub object_head-by : {m w : ℕ} → m ≡ col o.table.rows.now j col_count2 → w ≡ cond (eqb m 0) (count * 16 + 3) (count * 16 + 11)
      → Writes r o n (λ R B. these ((0x0A ∷ u29 w) ++ class_bytes [] (class_text R B j) ++ names_at f R B (j + 1) count))
      → Writes r o n (λ R B. these (object_head_at f R B j))
  object_head-by g h = renamed _ _ (ap these (sym (object-head o.table.rows.now o.table.store.now j f e g h)))

  pub vector_head-by : {w : ℕ} → w ≡ col o.table.rows.now j col_flag
      → Writes r o n (λ R B. these ((0x10 ∷ size_bytes count ++ flag_byte (not (eqb w 0)) ∷ []) ++ class_bytes (0x2A ∷ []) (class_text R B j)))
      → Writes r o n (λ R B. these (vector_head_at f R B j))
  vector_head-by h = renamed _ _ (ap these (sym (vector-head o.table.rows.now o.table.store.now j f e h)))

-- a value
module _ {o : Writer} (left : ℕ) (i : ℕ) where
  pub deep-by : left ≡ 0 → Writes (Err TooDeep) o o (λ R B. value_at left R B i)
  deep-by h = too-deep o (sym (value-deep left o.table.rows.now o.table.store.now i h))

  pub value-by : {n : Writer} {j : ℕ} {r : Result (Unit {0}) Stop} → (left ≡ 0 → ⊥) → j ≡ home o.table.rows.now i
      → Writes r o n (λ R B. node_at (left - 1) R B j) → Writes r o n (λ R B. value_at left R B i)
  value-by h e = renamed _ _ (value-node left o.table.rows.now o.table.store.now i h e)

-- a row that holds no values
pub plain-by : {o n : Writer} {r : Result (Unit {0}) Stop} (left j : ℕ)
    → Writes r o n (λ R B. emit_in (emit left) (node (tree_at left o.table.rows.now o.table.store.now) R B j))
    → Writes r o n (λ R B. node_at left R B j)
plain-by {o} left j = renamed (λ R B. emit_in (emit left) (node (tree_at left o.table.rows.now o.table.store.now) R B j)) (λ R B. node_at left R B j) refl
