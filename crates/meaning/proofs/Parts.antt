-- What the bytes of a value are made of, in order: bytes of its own, and the values in it.
use mathlib.Core.Path.{◌≡◌, refl, sym, ◌∙◌}
use mathlib.Core.List.{List, [], ◌∷◌, ◌++◌, append_assoc, append-nil}
use Prim.Native.Nat.{ℕ, suc, max}
use native.Mathlib.Omega.{arith}
use Rattle.format.specs.Standard.{Tree, plain, array, object, object_vector, dictionary, Trees, nil, cons, Pairs, no_pairs, pair, Entries}
use Rattle.format.specs.Standard.{no_entries, entry, text_bytes, encode_plain, array_head, object_head}
use Rattle.format.specs.Standard.{encode, encode_trees, encode_pairs, encode_values, encode_dynamic, encode_entries}
pub use Rattle.format.specs.Endings.{Piece, own, child, bytes_in}
unfoldable pub use Rattle.format.specs.Endings.{depth, depth_trees, depth_pairs, depth_entries}
unfoldable pub use Rattle.format.specs.Endings.{tree_parts, pair_parts, value_parts, dynamic_parts, entry_parts, parts}

-- ---- their bytes are the value's

unfoldable pub joined : List Piece → List ℕ
joined [] = []
joined (p ∷ ps) = bytes_in p ++ joined ps

joined-append : (ps qs : List Piece) → joined (ps ++ qs) ≡ joined ps ++ joined qs
unfolding joined
joined-append [] qs = refl
joined-append (p ∷ ps) qs = rw (joined-append ps qs) (sym (append_assoc (bytes_in p) (joined ps) (joined qs)))

tree-bytes : (ts : Trees) → joined (tree_parts ts) ≡ encode_trees ts
unfolding joined tree_parts encode_trees
tree-bytes nil = refl
tree-bytes (cons t ts) = rw (tree-bytes ts)

pair-bytes : (ps : Pairs) → joined (pair_parts ps) ≡ encode_pairs ps
unfolding joined pair_parts encode_pairs
pair-bytes no_pairs = refl
pair-bytes (pair x t ps) = rw (pair-bytes ps) (sym (append_assoc (text_bytes x) (encode t) (encode_pairs ps)))

value-bytes : (ps : Pairs) → joined (value_parts ps) ≡ encode_values ps
unfolding joined value_parts encode_values
value-bytes no_pairs = refl
value-bytes (pair x t ps) = rw (value-bytes ps)

entry-bytes : (es : Entries) → joined (entry_parts es) ≡ encode_entries es
unfolding joined entry_parts encode_entries
entry-bytes no_entries = refl
entry-bytes (entry a b es) = rw (entry-bytes es) (sym (append_assoc (encode a) (encode b) (encode_entries es)))

dynamic-bytes : (ps : Pairs) → joined (dynamic_parts ps) ≡ encode_dynamic ps
unfolding joined dynamic_parts encode_pairs encode_dynamic
dynamic-bytes no_pairs = refl
dynamic-bytes (pair x t ps) =
    rw (joined-append (pair_parts (pair x t ps)) (own (0x01 ∷ []) ∷ []), pair-bytes (pair x t ps))

pub encode-parts : (t : Tree) → joined (parts t) ≡ encode t
unfolding joined parts encode
encode-parts (plain p) = append-nil (encode_plain p)
encode-parts (array xs ts) =
    rw (joined-append (pair_parts xs) (own (0x01 ∷ []) ∷ tree_parts ts), pair-bytes xs, tree-bytes ts)
    (sym (append_assoc (array_head ts) (encode_pairs xs) (0x01 ∷ encode_trees ts)))
encode-parts (object class xs ys) =
    rw (joined-append (value_parts xs) (dynamic_parts ys), value-bytes xs, dynamic-bytes ys)
    (sym (append_assoc (object_head class xs ys) (encode_values xs) (encode_dynamic ys)))
encode-parts (object_vector fixed class ts) = rw (tree-bytes ts)
encode-parts (dictionary weak es) = rw (entry-bytes es)

-- ---- how deep a value nests: one that holds no others counts 1

abbrev pub depth_in : Piece → ℕ
depth_in (own bs) = 0
depth_in (child t) = depth t

unfoldable pub deepest : List Piece → ℕ
deepest [] = 0
deepest (p ∷ ps) = max (depth_in p) (deepest ps)

deepest-append : (ps qs : List Piece) → deepest (ps ++ qs) ≡ max (deepest ps) (deepest qs)
unfolding deepest
deepest-append [] qs = omega arith
deepest-append (p ∷ ps) qs = omega (arith, deepest-append ps qs)

tree-depth : (ts : Trees) → deepest (tree_parts ts) ≡ depth_trees ts
unfolding deepest tree_parts depth_trees
tree-depth nil = refl
tree-depth (cons t ts) = rw (tree-depth ts)

pair-depth : (ps : Pairs) → deepest (pair_parts ps) ≡ depth_pairs ps
unfolding deepest pair_parts depth_pairs
pair-depth no_pairs = refl
pair-depth (pair x t ps) = rw (pair-depth ps) (omega arith)

value-depth : (ps : Pairs) → deepest (value_parts ps) ≡ depth_pairs ps
unfolding deepest value_parts depth_pairs
value-depth no_pairs = refl
value-depth (pair x t ps) = rw (value-depth ps)

dynamic-depth : (ps : Pairs) → deepest (dynamic_parts ps) ≡ depth_pairs ps
unfolding deepest dynamic_parts depth_pairs
dynamic-depth no_pairs = refl
dynamic-depth (pair x t ps) = deepest-append (pair_parts (pair x t ps)) (own (0x01 ∷ []) ∷ []) ∙ rw (pair-depth (pair x t ps)) (omega arith)

entry-depth : (es : Entries) → deepest (entry_parts es) ≡ depth_entries es
unfolding deepest entry_parts depth_entries
entry-depth no_entries = refl
entry-depth (entry a b es) = rw (entry-depth es)

pub depth-parts : (t : Tree) → depth t ≡ suc (deepest (parts t))
unfolding deepest parts depth
depth-parts (plain p) = refl
depth-parts (array xs ts) = omega (arith, deepest-append (pair_parts xs) (own (0x01 ∷ []) ∷ tree_parts ts), pair-depth xs, tree-depth ts)
depth-parts (object class xs ys) = omega (arith, deepest-append (value_parts xs) (dynamic_parts ys), value-depth xs, dynamic-depth ys)
depth-parts (object_vector fixed class ts) = omega (arith, tree-depth ts)
depth-parts (dictionary weak es) = omega (arith, entry-depth es)
