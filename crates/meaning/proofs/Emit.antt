-- The bytes of a tree as the writer emits them, where so many values may still open, against its encoding:
-- they are its beginning, all of it where they are not stopped, and they are stopped just before the first value that nests too deep.
use mathlib.Core.Path.{◌≡◌, refl, ap, sym, ◌∙◌}
use mathlib.Core.Bool.{Bool, true, false, ◌||◌}
use mathlib.Core.List.{List, [], ◌∷◌, ◌++◌, append_assoc, append-nil}
use Prim.Native.Nat.{ℕ, zero, suc, max}
use native.Mathlib.Omega.{arith}
use native.Mathlib.Decide.{dec_lt}
use borrow.Author.Tests.{le-ltb, lt-ltb}
use lib.Dec.{ltb, leb-suc-suc}
use Rattle.format.specs.Standard.{Tree, plain, array, object, object_vector, dictionary, Trees, nil, cons, Pairs, no_pairs, pair, Entries}
use Rattle.format.specs.Standard.{no_entries, entry, encode_plain, encode}
use Rattle.format.specs.Writing.{Stream, done, deep, byte, ◌then◌, these, stream_bytes, is_deep}
use Rattle.format.specs.Writing.{emit_trees, emit_pairs, emit_values, emit_dynamic, emit_entries, emit_in, emit}
use Rattle.format.proofs.Tests.{or_true, clash}
use Rattle.meaning.proofs.Parts.{Piece, own, child, tree_parts, pair_parts, value_parts, dynamic_parts, entry_parts, parts}
use Rattle.meaning.proofs.Parts.{bytes_in, joined, encode-parts, depth, depth_in, deepest, depth-parts}
pub use Rattle.format.specs.Endings.{Among, here, later, Nested}

-- ---- streams one after the other

then-done : (x : Stream) → x then done ≡ x
unfolding ◌then◌
then-done done = refl
then-done deep = refl
then-done (byte b x) = ap (byte b) (then-done x)

then-assoc : (x y z : Stream) → (x then y) then z ≡ x then (y then z)
unfolding ◌then◌
then-assoc done y z = refl
then-assoc deep y z = refl
then-assoc (byte b x) y z = ap (byte b) (then-assoc x y z)

deep-either : (x y : Stream) → is_deep (x then y) ≡ (is_deep x || is_deep y)
unfolding is_deep ◌then◌
deep-either done y = refl
deep-either deep y = refl
deep-either (byte b x) y = deep-either x y

-- nothing comes after a stop
deep-then : (x y : Stream) → is_deep x ≡ true → x then y ≡ x
unfolding is_deep ◌then◌
deep-then done y e = clash cc
deep-then deep y e = refl
deep-then (byte b x) y e = ap (byte b) (deep-then x y e)

these-deep : (bs : List ℕ) → is_deep (these bs) ≡ false
unfolding is_deep these
these-deep [] = refl
these-deep (b ∷ bs) = these-deep bs

-- ---- a stream begins a list of bytes: it has them all, or stops within them

pub data Begins : Stream → List ℕ → Type 0 where
  whole : Begins done []
  stops : {bs : List ℕ} → Begins deep bs
  goes : {x : Stream} {bs : List ℕ} (b : ℕ) → Begins x bs → Begins (byte b x) (b ∷ bs)

begins-then : {x y : Stream} {bs cs : List ℕ} → Begins x bs → Begins y cs → Begins (x then y) (bs ++ cs)
unfolding ◌then◌
begins-then whole h = h
begins-then stops h = stops
begins-then (goes b g) h = goes b (begins-then g h)

begins-these : (bs : List ℕ) → Begins (these bs) bs
unfolding these
begins-these [] = whole
begins-these (b ∷ bs) = goes b (begins-these bs)

pub begins-whole : {x : Stream} {bs : List ℕ} → Begins x bs → is_deep x ≡ false → stream_bytes x ≡ bs
unfolding is_deep stream_bytes
begins-whole whole e = refl
begins-whole stops e = clash cc
begins-whole (goes b g) e = ap (λ (l : List ℕ). b ∷ l) (begins-whole g e)

pub begins_prefix : {x : Stream} {bs : List ℕ} → Begins x bs → (rest : List ℕ) × (bs ≡ stream_bytes x ++ rest)
unfolding stream_bytes
begins_prefix whole = ([], refl)
begins_prefix (stops {bs}) = (bs, refl)
begins_prefix (goes b g) = let (rest, e) = begins_prefix g in (rest, ap (λ (l : List ℕ). b ∷ l) e)

-- ---- the pieces of a value, as they come

abbrev emit_piece : (Tree → Stream) → Piece → Stream
emit_piece f (own bs) = these bs
emit_piece f (child t) = f t

unfoldable emit_parts : (Tree → Stream) → List Piece → Stream
emit_parts f [] = done
emit_parts f (p ∷ ps) = emit_piece f p then emit_parts f ps

module _ (f : Tree → Stream) where
  parts-append : (ps qs : List Piece) → emit_parts f (ps ++ qs) ≡ emit_parts f ps then emit_parts f qs
  unfolding emit_parts ◌then◌
  parts-append [] qs = refl
  parts-append (p ∷ ps) qs = rw (parts-append ps qs) (sym (then-assoc (emit_piece f p) (emit_parts f ps) (emit_parts f qs)))

  tree-parts : (ts : Trees) → emit_trees f ts ≡ emit_parts f (tree_parts ts)
  unfolding emit_trees emit_parts tree_parts
  tree-parts nil = refl
  tree-parts (cons t ts) = rw (tree-parts ts)

  pair_parts_lem : (ps : Pairs) → emit_pairs f ps ≡ emit_parts f (pair_parts ps)
  unfolding emit_pairs emit_parts pair_parts
  pair_parts_lem no_pairs = refl
  pair_parts_lem (pair x t ps) = rw (pair_parts_lem ps)

  value-parts : (ps : Pairs) → emit_values f ps ≡ emit_parts f (value_parts ps)
  unfolding emit_values emit_parts value_parts
  value-parts no_pairs = refl
  value-parts (pair x t ps) = rw (value-parts ps)

  dynamic-parts : (ps : Pairs) → emit_dynamic f ps ≡ emit_parts f (dynamic_parts ps)
  unfolding emit_dynamic emit_parts dynamic_parts
  dynamic-parts no_pairs = refl
  dynamic-parts (pair x t ps) =
      rw (parts-append (pair_parts (pair x t ps)) (own (0x01 ∷ []) ∷ []), pair_parts_lem (pair x t ps), then-done (these (0x01 ∷ [])))

  entry-parts : (es : Entries) → emit_entries f es ≡ emit_parts f (entry_parts es)
  unfolding emit_entries emit_parts entry_parts
  entry-parts no_entries = refl
  entry-parts (entry a b es) = rw (entry-parts es)

  in_parts : (t : Tree) → emit_in f t ≡ emit_parts f (parts t)
  unfolding emit_in emit_parts parts
  in_parts (plain p) = sym (then-done (these (encode_plain p)))
  in_parts (array xs ts) = rw (parts-append (pair_parts xs) (own (0x01 ∷ []) ∷ tree_parts ts), pair_parts_lem xs, tree-parts ts)
  in_parts (object class xs ys) = rw (parts-append (value_parts xs) (dynamic_parts ys), value-parts xs, dynamic-parts ys)
  in_parts (object_vector fixed class ts) = rw (tree-parts ts)
  in_parts (dictionary weak es) = rw (entry-parts es)

-- ---- what they begin, and whether they stop

module _ (f : Tree → Stream) (good : (t : Tree) → Begins (f t) (encode t)) where
  piece-begins : (p : Piece) → Begins (emit_piece f p) (bytes_in p)
  piece-begins (own bs) = begins-these bs
  piece-begins (child t) = good t

  parts-begin : (ps : List Piece) → Begins (emit_parts f ps) (joined ps)
  unfolding emit_parts joined
  parts-begin [] = whole
  parts-begin (p ∷ ps) = begins-then (piece-begins p) (parts-begin ps)

pub emit-begins : (left : ℕ) (t : Tree) → Begins (emit left t) (encode t)
unfolding emit
emit-begins zero t = stops
emit-begins (suc left) t =
    rw (in_parts (emit left) t, ← encode-parts t) (parts-begin (emit left) (emit-begins left) (parts t))

-- all of the encoding, where they don't stop
pub emit-whole : (left : ℕ) (t : Tree) → is_deep (emit left t) ≡ false → stream_bytes (emit left t) ≡ encode t
emit-whole left t = begins-whole (emit-begins left t)

pub emit_prefix : (left : ℕ) (t : Tree) → (rest : List ℕ) × (encode t ≡ stream_bytes (emit left t) ++ rest)
emit_prefix left t = begins_prefix (emit-begins left t)

either_less : (n a b : ℕ) → (ltb n a || ltb n b) ≡ ltb n (max a b)
either_less n a b =
    elim (dec_lt n a) [
      | yes h ↦ rw (lt-ltb n a h, lt-ltb n (max a b) (omega arith))
      | no h ↦ elim (dec_lt n b) [
        | yes g ↦ rw (le-ltb n a (omega arith), lt-ltb n b g, lt-ltb n (max a b) (omega arith))
        | no g ↦ rw (le-ltb n a (omega arith), le-ltb n b (omega arith), le-ltb n (max a b) (omega arith))
      ]
    ]

module _ (f : Tree → Stream) (left : ℕ) (good : (t : Tree) → is_deep (f t) ≡ ltb left (depth t)) where
  piece-deep : (p : Piece) → is_deep (emit_piece f p) ≡ ltb left (depth_in p)
  piece-deep (own bs) = these-deep bs ∙ sym (le-ltb left 0 (omega arith))
  piece-deep (child t) = good t

  parts-deep : (ps : List Piece) → is_deep (emit_parts f ps) ≡ ltb left (deepest ps)
  unfolding emit_parts deepest is_deep
  parts-deep [] = sym (le-ltb left 0 (omega arith))
  parts-deep (p ∷ ps) =
      deep-either (emit_piece f p) (emit_parts f ps) ∙ rw (piece-deep p, parts-deep ps) (either_less left (depth_in p) (deepest ps))

-- they stop where the tree nests deeper than so many values, and only there
pub emit-deep : (left : ℕ) (t : Tree) → is_deep (emit left t) ≡ ltb left (depth t)
unfolding emit is_deep
emit-deep zero t = sym (lt-ltb 0 (depth t) (omega (arith, depth-parts t)))
emit-deep (suc left) t =
    rw (in_parts (emit left) t, depth-parts t, leb-suc-suc (suc left) (deepest (parts t))) (parts-deep (emit left) left (emit-deep left) (parts t))

-- ---- the value that they stop at

-- u's own bytes come behind x
abbrev Follows : List ℕ → Tree → List ℕ → Type 0
Follows bs u x = (y : List ℕ) × (bs ≡ x ++ encode u ++ y)

among-bytes : {P : Tree → Tree → List ℕ → Type 0} → ((t u : Tree) (x : List ℕ) → P t u x → Follows (encode t) u x)
    → {ps : List Piece} {u : Tree} {x : List ℕ} → Among P ps u x → Follows (joined ps) u x
unfolding joined
among-bytes f (here {t} {u} {ps} {x} h) = let (y, e) = f t u x h in (y ++ joined ps, rw e (append_assoc (x ++ encode u) y (joined ps)))
among-bytes f (later {u} {ps} {x} p a) = let (y, e) = among-bytes f a in (y, rw e (sym (simp append_assoc)))

pub nested-bytes : (n : ℕ) (t u : Tree) (x : List ℕ) → Nested n t u x → (y : List ℕ) × (encode t ≡ x ++ encode u ++ y)
nested-bytes zero t u x h = ([], rw (h.0, h.1) (sym (append-nil (encode u))))
nested-bytes (suc n) t u x a = let (y, e) = among-bytes (nested-bytes n) a in (y, sym (encode-parts t) ∙ e)

-- ---- no value with so many open around it comes before the stop, and the stop is at one

abbrev Stopped : Stream → List ℕ → Type 0
Stopped s x = (is_deep s ≡ true) × Begins s x

bytes-then : (x y : Stream) → is_deep x ≡ false → stream_bytes (x then y) ≡ stream_bytes x ++ stream_bytes y
unfolding is_deep stream_bytes ◌then◌
bytes-then done y e = refl
bytes-then deep y e = clash cc
bytes-then (byte b x) y e = ap (λ (l : List ℕ). b ∷ l) (bytes-then x y e)

module _ (f : Tree → Stream) (begins : (t : Tree) → Begins (f t) (encode t)) where
  among-deep : {P : Tree → Tree → List ℕ → Type 0} → ((t u : Tree) (x : List ℕ) → P t u x → Stopped (f t) x)
      → {ps : List Piece} {u : Tree} {x : List ℕ} → Among P ps u x → Stopped (emit_parts f ps) x
  unfolding emit_parts
  among-deep good (here {t} {u} {ps} {x} h) = let (e, g) = good t u x h in rw (deep-then (f t) (emit_parts f ps) e) (e, g)
  among-deep good (later {ps = ps} p a) =
      let (e, g) = among-deep good a in
      (deep-either (emit_piece f p) (emit_parts f ps) ∙ rw e (or_true (is_deep (emit_piece f p))), begins-then (piece-begins f begins p) g)

  module _ (n : ℕ) (good : (t : Tree) → is_deep (f t) ≡ true → (u : Tree) × Nested n t u (stream_bytes (f t))) where
    piece-stop : (ps : List Piece) (d : Bool) (p : Piece) → is_deep (emit_piece f p) ≡ d → is_deep (emit_piece f p then emit_parts f ps) ≡ true
        → (is_deep (emit_parts f ps) ≡ true → (u : Tree) × Among (Nested n) ps u (stream_bytes (emit_parts f ps)))
        → (u : Tree) × Among (Nested n) (p ∷ ps) u (stream_bytes (emit_piece f p then emit_parts f ps))
    piece-stop ps true (own bs) g e more = let h = these-deep bs in clash cc
    piece-stop ps true (child t) g e more = let (u, h) = good t g in (u, rw (deep-then (f t) (emit_parts f ps) g) (here h))
    piece-stop ps false p g e more =
        let d : is_deep (emit_parts f ps) ≡ true = rw g at (sym (deep-either (emit_piece f p) (emit_parts f ps)) ∙ e) in
        let (u, h) = more d in
        (u, rw (bytes-then (emit_piece f p) (emit_parts f ps) g, begins-whole (piece-begins f begins p) g) (later p h))

    parts-stop : (ps : List Piece) → is_deep (emit_parts f ps) ≡ true → (u : Tree) × Among (Nested n) ps u (stream_bytes (emit_parts f ps))
    unfolding emit_parts is_deep
    parts-stop [] e = clash cc
    parts-stop (p ∷ ps) e = piece-stop ps (is_deep (emit_piece f p)) p refl e (parts-stop ps)

pub nested-deep : (n : ℕ) (t u : Tree) (x : List ℕ) → Nested n t u x → (is_deep (emit n t) ≡ true) × Begins (emit n t) x
unfolding emit is_deep
nested-deep zero t u x h = (refl, stops)
nested-deep (suc n) t u x a = rw (in_parts (emit n) t) (among-deep (emit n) (emit-begins n) (nested-deep n) a)

pub emit-stop : (left : ℕ) (t : Tree) → is_deep (emit left t) ≡ true → (u : Tree) × Nested left t u (stream_bytes (emit left t))
unfolding emit stream_bytes
emit-stop zero t e = (t, (refl, refl))
emit-stop (suc left) t e =
    rw (in_parts (emit left) t)
    (parts-stop (emit left) (emit-begins left) left (emit-stop left) (parts t) (rw (in_parts (emit left) t) at e))
