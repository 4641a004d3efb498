-- A tree that is unfolded to as many levels as values may open has the same bytes as the whole tree.
use mathlib.Core.Path.{◌≡◌, refl, ap, sym, ◌∙◌}
use mathlib.Core.List.{List}
use Prim.Native.Nat.{ℕ, zero, suc, ◌+◌, ◌*◌, ◌<◌, ◌≤◌}
use native.Mathlib.Omega.{arith}
use native.Mathlib.Numerals.{add-one}
use Rattle.rows.specs.Memory.{col_kind, col_count, col_count2, col_end, rows_in, col}
use Rattle.rows.specs.Kinds.{kind_array, kind_object, kind_object_vector, kind_dictionary}
use Rattle.format.specs.Standard.{Tree}
use Rattle.format.specs.Unfold.{home, trees_at, pairs_at, node, tree_at, unfolded}
use Rattle.format.specs.RowTest.{children, tested, fine}
use Rattle.format.specs.Writing.{Stream, emit_trees, emit_pairs, emit_dynamic, emit_in, emit}
use Rattle.format.proofs.Tested.{Formed, tested-rows, Walk, done, next, walk_start, walk_after, home-row, kind-is}
use Rattle.format.proofs.Levels.{unfolded-node}
use Rattle.writer.specs.Pieces.{object_head_at, vector_head_at}
use Rattle.writer.proofs.Lists.{names_same}
use Rattle.writer.proofs.Nodes.{array-is, object-is, vector-is, dictionary-is, object-head, vector-head}
use Rattle.rows.specs.Kinds.{kind_undefined, kind_null, kind_boolean, kind_integer, kind_double, kind_string, kind_xml_document, kind_date, kind_xml}
use Rattle.rows.specs.Kinds.{kind_byte_array, kind_int_vector, kind_uint_vector, kind_double_vector, kind_reference}

module _ (R B : List ℕ) (rows : (i : ℕ) → i < rows_in R → Formed R B i) (F : Tree → Stream) (f g : ℕ → Tree)
    (agree : (k : ℕ) → k < rows_in R → F (f k) ≡ F (g k)) where
  -- ---- the children of row p

  module _ (p stop : ℕ) where
    trees-same : (n : ℕ) {c k j : ℕ} → n ≤ c → Walk R p stop k j c → emit_trees F (trees_at f R k n) ≡ emit_trees F (trees_at g R k n)
    unfolding emit_trees trees_at
    trees-same zero l w = refl
    trees-same (suc n) l done = absurd (omega arith)
    trees-same (suc n) l (next {k = k} x w) = rw (agree k x.row, trees-same n (omega arith) w)

    pairs-same : (n : ℕ) {c k j : ℕ} → n ≤ c → Walk R p stop k j c → emit_pairs F (pairs_at f R B k n) ≡ emit_pairs F (pairs_at g R B k n)
    unfolding emit_pairs pairs_at
    pairs-same zero l w = refl
    pairs-same (suc n) l done = absurd (omega arith)
    pairs-same (suc n) l (next {k = k} x w) = rw (agree k x.row, pairs-same n (omega arith) w)

    dynamic-same : (n : ℕ) {c k j : ℕ} → n ≤ c → Walk R p stop k j c → emit_dynamic F (pairs_at f R B k n) ≡ emit_dynamic F (pairs_at g R B k n)
    unfolding emit_dynamic emit_pairs pairs_at
    dynamic-same zero l w = refl
    dynamic-same (suc n) l done = absurd (omega arith)
    dynamic-same (suc n) l (next {k = k} x w) = rw (agree k x.row, pairs-same n (omega arith) w)

  -- ---- row p

  module _ (p : ℕ) (h : p < rows_in R) where
    abbrev n : ℕ
    n = col R p col_count

    abbrev m : ℕ
    m = col R p col_count2

    abbrev stop : ℕ
    stop = col R p col_end

    walk : (c : ℕ) → children R p ≡ c → Walk R p stop (suc p) 0 c
    walk c e = rw e at (walk_start R B rows p h)

    array_same : col R p col_kind ≡ kind_array → emit_in F (node f R B p) ≡ emit_in F (node g R B p)
    unfolding children
    array_same e =
        let w = walk (n + m) (rw e) in
        array-is R B p f refl F refl e
        ∙ rw (add-one p, pairs-same p stop n (omega arith) w, trees-same p stop m (omega arith) (walk_after R p stop n (omega arith) w))
        (sym (rw (add-one p) at (array-is R B p g refl F refl e)))

    head-same : object_head_at f R B p ≡ object_head_at g R B p
    head-same = object-head R B p f refl refl refl ∙ rw (names_same f g R B (p + 1) n) (sym (object-head R B p g refl refl refl))

    object-same : col R p col_kind ≡ kind_object → emit_in F (node f R B p) ≡ emit_in F (node g R B p)
    unfolding children
    object-same e =
        let w = walk (n + m) (rw e) in
        object-is R B p f refl F refl e
        ∙ rw (head-same, add-one p, trees-same p stop n (omega arith) w, dynamic-same p stop m (omega arith) (walk_after R p stop n (omega arith) w))
        (sym (rw (add-one p) at (object-is R B p g refl F refl e)))

    vector-same : col R p col_kind ≡ kind_object_vector → emit_in F (node f R B p) ≡ emit_in F (node g R B p)
    unfolding children
    vector-same e =
        let w = walk n (rw e) in
        let v : vector_head_at f R B p ≡ vector_head_at g R B p = vector-head R B p f refl refl ∙ sym (vector-head R B p g refl refl) in
        vector-is R B p f refl F e
        ∙ rw (v, add-one p, trees-same p stop n (omega arith) w)
        (sym (rw (add-one p) at (vector-is R B p g refl F e)))

    dictionary-same : col R p col_kind ≡ kind_dictionary → emit_in F (node f R B p) ≡ emit_in F (node g R B p)
    unfolding children
    dictionary-same e =
        let w = walk (2 * n) (rw e) in
        dictionary-is R B p f refl F e refl
        ∙ rw (add-one p, trees-same p stop (n * 2) (omega arith) w)
        (sym (rw (add-one p) at (dictionary-is R B p g refl F e refl)))

    node-same : emit_in F (node f R B p) ≡ emit_in F (node g R B p)
    unfolding node
    node-same =
        kind-is (col R p col_kind) 0 (omega arith) (λ e. rw e) λ l.
        kind-is (col R p col_kind) kind_undefined l (λ e. rw e) λ l.
        kind-is (col R p col_kind) kind_null l (λ e. rw e) λ l.
        kind-is (col R p col_kind) kind_boolean l (λ e. rw e) λ l.
        kind-is (col R p col_kind) kind_integer l (λ e. rw e) λ l.
        kind-is (col R p col_kind) kind_double l (λ e. rw e) λ l.
        kind-is (col R p col_kind) kind_string l (λ e. rw e) λ l.
        kind-is (col R p col_kind) kind_xml_document l (λ e. rw e) λ l.
        kind-is (col R p col_kind) kind_date l (λ e. rw e) λ l.
        kind-is (col R p col_kind) kind_array l array_same λ l.
        kind-is (col R p col_kind) kind_object l object-same λ l.
        kind-is (col R p col_kind) kind_xml l (λ e. rw e) λ l.
        kind-is (col R p col_kind) kind_byte_array l (λ e. rw e) λ l.
        kind-is (col R p col_kind) kind_int_vector l (λ e. rw e) λ l.
        kind-is (col R p col_kind) kind_uint_vector l (λ e. rw e) λ l.
        kind-is (col R p col_kind) kind_double_vector l (λ e. rw e) λ l.
        kind-is (col R p col_kind) kind_object_vector l vector-same λ l.
        kind-is (col R p col_kind) kind_dictionary l dictionary-same λ l.
        kind-is (col R p col_kind) kind_reference l (λ e. rw e) λ l.
        absurd (omega (arith, (rows p h).high))

pub emit-levels : (R B : List ℕ) → tested R B ≡ fine → (left i : ℕ) → i < rows_in R → emit left (unfolded R B i) ≡ emit left (tree_at left R B i)
unfolding emit tree_at
emit-levels R B t zero i h = refl
emit-levels R B t (suc left) i h =
    let rows : (j : ℕ) → j < rows_in R → Formed R B j = (λ j l. ((tested-rows R B t).1 j l).formed) in
    ap (emit_in (emit left)) (unfolded-node R B t i h)
    ∙ node-same R B rows (emit left) (unfolded R B) (tree_at left R B) (emit-levels R B t left) (home R i) (home-row R B rows i h)
