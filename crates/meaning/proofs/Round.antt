-- What is written is read back by the standard, whatever follows it, with no bound on the tree's size; so no encoding begins another.
use mathlib.Core.Path.{◌≡◌, refl, ap, sym, ◌∙◌}
use mathlib.Core.Bool.{Bool, true, false}
use mathlib.Core.List.{List, [], ◌∷◌, ◌++◌, append_assoc}
use mathlib.Core.Option.{Option, none, some}
use Prim.Native.Nat.{ℕ, zero, suc, ◌+◌, ◌^◌, ◌<◌, ◌≤◌}
use native.Mathlib.Omega.{arith}
use borrow.Author.Tests.{ne_eqb}
use lib.Dec.{eqb, lit<}
use lib.ListN.{length}
use Rattle.wire.specs.U29.{u29}
use Rattle.utf8.specs.Grammar.{follow, valid_text}
use Rattle.format.specs.Decide as k
use Rattle.format.specs.Standard.{follows}
use Rattle.format.specs.Reading.{ok}
use Rattle.format.specs.Standard.{Tree, plain, array, object, object_vector, dictionary, Trees, nil, cons, Pairs, no_pairs, pair, Entries}
use Rattle.format.specs.Standard.{no_entries, entry}
use Rattle.format.specs.Standard.{Tables, no_tables, Std, text, shut, names, new_traits, class_given, starred, trees, sealed, pairs_from, pairs}
use Rattle.format.specs.Standard.{dynamics, entries, members, object_of, new_of, marked, value, standard}
use Rattle.format.specs.Standard.{count, count_pairs, count_entries, size_bytes, text_bytes, name_bytes, flag_byte, class_bytes, trait_word}
use Rattle.format.specs.Standard.{array_head, object_head, vector_head, dictionary_head}
use Rattle.format.specs.Standard.{encode, encode_trees, encode_pairs, encode_values, encode_dynamic, encode_entries}
use Rattle.format.proofs.Tests.{flag-back}
use Rattle.meaning.proofs.Fuel.{value_fuel, standard_fuel}
use Rattle.meaning.proofs.Words.{dynamic_of, trait_shape, trait_below}
use Rattle.format.specs.Writable.{IsText, IsKey, IsType, IfGiven, Writable, WritableTrees, WritablePairs, WritableMembers, WritableEntries}
use Rattle.meaning.proofs.Back.{Reads, reads-ret, reads-bind, reads-last, reads-opened, reads-change, reads_byte, reads_word, reads-text}
use Rattle.meaning.proofs.Back.{reads-empty, reads-marked, reads_sized, reads_plain, empty-text}

-- the fuel that a tree needs
abbrev mutual
  size : Tree → ℕ
  size (plain p) = 1
  size (array xs ts) = suc (size_pairs xs + size_trees ts)
  size (object class xs ys) = suc (size_pairs xs + size_pairs ys)
  size (object_vector fixed class ts) = suc (size_trees ts)
  size (dictionary weak es) = suc (size_entries es)

  size_trees : Trees → ℕ
  size_trees nil = 0
  size_trees (cons t ts) = size t + size_trees ts

  size_pairs : Pairs → ℕ
  size_pairs no_pairs = 0
  size_pairs (pair x t ps) = suc (size t + size_pairs ps)

  size_entries : Entries → ℕ
  size_entries no_entries = 0
  size_entries (entry a b es) = size a + size b + size_entries es

-- the same bytes, in other brackets
regroup : {A : Type 0} {g : Std A} {a : A} {cs : List ℕ} (bs : List ℕ) → bs ≡ cs → Reads g bs a → Reads g cs a
regroup bs e h = rw e at h

-- ---- what the entries of a value are read by

-- the names of sealed members
abbrev names_of : Pairs → List (List ℕ)
names_of no_pairs = []
names_of (pair x t ps) = x ∷ names_of ps

reads-names : (xs : Pairs) → WritableMembers xs → Reads (names (count_pairs xs)) (name_bytes xs) (names_of xs)
unfolding names count_pairs name_bytes
reads-names no_pairs h = reads-ret
reads-names (pair x t ps) h = reads-bind _ (reads-text x h.0) (reads-last _ (reads-names ps h.2) reads-ret)

-- a class, and what no class is written as
abbrev class_text : List ℕ → Option (List ℕ) → List ℕ
class_text none' none = none'
class_text none' (some t) = t

reads-class : {P : List ℕ → Type 0} → ((t : List ℕ) → P t → IsText t) → (none' : List ℕ) → IsText none' → (class : Option (List ℕ)) → IfGiven P class
    → Reads text (class_bytes none' class) (class_text none' class)
reads-class p none' h none g = reads-text none' h
reads-class p none' h (some t) g = reads-text t (p t g)

given-class : (class : Option (List ℕ)) → IfGiven IsKey class → class_given (class_text [] class) ≡ class
unfolding class_given
given-class none h = refl
given-class (some []) h = absurd (omega (arith, h.filled))
given-class (some (b ∷ t)) h = refl

star-text : IsText (0x2A ∷ [])
unfolding follow valid_text
star-text = record { valid = refl; short = lit< tt }

starred-class : (class : Option (List ℕ)) → IfGiven IsType class → starred (class_text (0x2A ∷ []) class) ≡ class
unfolding starred
starred-class none h = refl
starred-class (some []) h = refl
starred-class (some (b ∷ [])) h = rw (ne_eqb b 0x2A (λ e. h.unstarred (ap (λ (c : ℕ). c ∷ []) e)))
starred-class (some (b ∷ c ∷ t)) h = refl

weakly : (weak : Bool) → eqb (flag_byte weak) 1 ≡ weak
weakly true = refl
weakly false = refl

module _ (v : Std Tree) where
  reads-from : {more : Std Pairs} {bs cs : List ℕ} {t : Tree} {ts : Pairs} (x : List ℕ) → 0 < length x → Reads v bs t → Reads more cs ts
      → Reads (pairs_from v more x) (bs ++ cs) (pair x t ts)
  unfolding pairs_from
  reads-from [] h a c = absurd (omega arith)
  reads-from (b ∷ x) h a c = reads-bind _ a (reads-last _ c reads-ret)

  no-pair : (f : ℕ) → Reads (pairs v (suc f)) (0x01 ∷ []) no_pairs
  unfolding pairs pairs_from
  no-pair f = reads-last _ reads-empty reads-ret

  one-pair : (f : ℕ) {cs : List ℕ} {t : Tree} {ts : Pairs} (x : List ℕ) → IsKey x → Reads v (encode t) t → Reads (pairs v f) cs ts
      → Reads (pairs v (suc f)) (text_bytes x ++ (encode t ++ cs)) (pair x t ts)
  unfolding pairs
  one-pair f x h a c = reads-bind _ (reads-text x h.text) (reads-from x h.filled a c)

  reads-dynamics : (f : ℕ) (ys : Pairs) → Reads (pairs v f) (encode_pairs ys ++ 0x01 ∷ []) ys → Reads (dynamics v f (dynamic_of ys)) (encode_dynamic ys) ys
  unfolding dynamics encode_pairs encode_dynamic
  reads-dynamics f no_pairs h = reads-ret
  reads-dynamics f (pair x t ps) h = h

-- ---- the values that hold others

module _ (f d : ℕ) where
  reads-array : (xs : Pairs) (ts : Trees) → count ts < 2 ^ 28 → Reads (pairs (value f d) f) (encode_pairs xs ++ 0x01 ∷ []) xs
      → Reads (trees (value f d) (count ts)) (encode_trees ts) ts → Reads (value f (suc d)) (encode (array xs ts)) (array xs ts)
  unfolding encode array_head follows new_of
  reads-array xs ts l p q =
      regroup (0x09 ∷ (size_bytes (count ts) ++ ((encode_pairs xs ++ 0x01 ∷ []) ++ encode_trees ts))) (simp append_assoc)
      (reads-marked f d 0x09 refl (reads_sized (value f d) f 0x09 k.array (count ts) l (reads-bind _ p (reads-last _ q reads-ret))))

  reads-vector : (fixed : Bool) (class : Option (List ℕ)) (ts : Trees) → IfGiven IsType class → count ts < 2 ^ 28
      → Reads (trees (value f d) (count ts)) (encode_trees ts) ts
      → Reads (value f (suc d)) (encode (object_vector fixed class ts)) (object_vector fixed class ts)
  unfolding encode vector_head follows new_of
  reads-vector fixed class ts g l q =
      regroup (0x10 ∷ (size_bytes (count ts) ++ flag_byte fixed ∷ (class_bytes (0x2A ∷ []) class ++ encode_trees ts))) (simp append_assoc)
      (reads-marked f d 0x10 refl (reads_sized (value f d) f 0x10 k.objects (count ts) l
      (reads-bind _ (reads_byte (flag_byte fixed)) (reads-bind _ (reads-class (λ t h. h.text) (0x2A ∷ []) star-text class g)
      (rw (flag-back fixed, starred-class class g) (reads-last _ q reads-ret))))))

  reads-dictionary : (weak : Bool) (es : Entries) → count_entries es < 2 ^ 28
      → Reads (entries (value f d) (count_entries es)) (encode_entries es) es
      → Reads (value f (suc d)) (encode (dictionary weak es)) (dictionary weak es)
  unfolding encode dictionary_head follows new_of
  reads-dictionary weak es l q =
      regroup (0x11 ∷ (size_bytes (count_entries es) ++ flag_byte weak ∷ encode_entries es)) (simp append_assoc)
      (reads-marked f d 0x11 refl (reads_sized (value f d) f 0x11 k.dictionary (count_entries es) l
      (reads-bind _ (reads_byte (flag_byte weak)) (rw (weakly weak) (reads-last _ q reads-ret)))))

  reads-object : (class : Option (List ℕ)) (xs ys : Pairs) → IfGiven IsKey class → WritableMembers xs → count_pairs xs < 2 ^ 25
      → Reads (sealed (value f d) (names_of xs)) (encode_values xs) xs → Reads (pairs (value f d) f) (encode_pairs ys ++ 0x01 ∷ []) ys
      → Reads (value f (suc d)) (encode (object class xs ys)) (object class xs ys)
  unfolding encode object_head follows marked object_of new_traits members shut
  reads-object class xs ys g h l p q =
      regroup (0x0A ∷ (u29 (trait_word xs ys) ++ ((class_bytes [] class ++ name_bytes xs) ++ (encode_values xs ++ encode_dynamic ys)))) (simp append_assoc)
      (reads-marked f d 0x0A refl
      (reads-bind _ (reads_word (trait_word xs ys) (trait_below xs ys l))
      (rw (trait_shape xs ys)
      (reads-opened (λ i. reads-bind _
      (reads-bind _ (reads-class (λ t h. h.text) [] empty-text class g) (reads-last _ (reads-names xs h) reads-change))
      (reads-bind _ p (reads-last _ (reads-dynamics (value f d) f ys q) (rw (given-class class g) reads-change))))))))

-- ---- every tree

mutual
  unfolding trees pairs sealed entries count count_entries encode_trees encode_pairs encode_values encode_entries encode

  reads-tree : (t : Tree) → Writable t → (f d : ℕ) → size t ≤ f → size t ≤ d → Reads (value f d) (encode t) t
  reads-tree (plain p) w f zero hf hd = absurd (omega arith)
  reads-tree (plain p) w f (suc d) hf hd = reads_plain p w f d
  reads-tree (array xs ts) w f zero hf hd = absurd (omega arith)
  reads-tree (array xs ts) w f (suc d) hf hd =
      reads-array f d xs ts w.2 (reads-pairs xs w.0 f d f (omega arith) (omega arith) (omega arith))
      (reads-trees ts w.1 f d (omega arith) (omega arith))
  reads-tree (object class xs ys) w f zero hf hd = absurd (omega arith)
  reads-tree (object class xs ys) w f (suc d) hf hd =
      reads-object f d class xs ys w.0 w.1 w.3 (reads-sealed xs w.1 f d (omega arith) (omega arith))
      (reads-pairs ys w.2 f d f (omega arith) (omega arith) (omega arith))
  reads-tree (object_vector fixed class ts) w f zero hf hd = absurd (omega arith)
  reads-tree (object_vector fixed class ts) w f (suc d) hf hd =
      reads-vector f d fixed class ts w.0 w.2 (reads-trees ts w.1 f d (omega arith) (omega arith))
  reads-tree (dictionary weak es) w f zero hf hd = absurd (omega arith)
  reads-tree (dictionary weak es) w f (suc d) hf hd =
      reads-dictionary f d weak es w.1 (reads-entries es w.0 f d (omega arith) (omega arith))

  reads-trees : (ts : Trees) → WritableTrees ts → (f d : ℕ) → size_trees ts ≤ f → size_trees ts ≤ d
      → Reads (trees (value f d) (count ts)) (encode_trees ts) ts
  reads-trees nil w f d hf hd = reads-ret
  reads-trees (cons t ts) w f d hf hd =
      reads-bind _ (reads-tree t w.0 f d (omega arith) (omega arith))
      (reads-last _ (reads-trees ts w.1 f d (omega arith) (omega arith)) reads-ret)

  reads-pairs : (ps : Pairs) → WritablePairs ps → (f d g : ℕ) → size_pairs ps ≤ f → size_pairs ps ≤ d → size_pairs ps < g
      → Reads (pairs (value f d) g) (encode_pairs ps ++ 0x01 ∷ []) ps
  reads-pairs no_pairs w f d zero hf hd hg = absurd (omega arith)
  reads-pairs no_pairs w f d (suc g) hf hd hg = no-pair (value f d) g
  reads-pairs (pair x t ps) w f d zero hf hd hg = absurd (omega arith)
  reads-pairs (pair x t ps) w f d (suc g) hf hd hg =
      regroup (text_bytes x ++ (encode t ++ (encode_pairs ps ++ 0x01 ∷ []))) (simp append_assoc)
      (one-pair (value f d) g x w.0 (reads-tree t w.1 f d (omega arith) (omega arith))
      (reads-pairs ps w.2 f d g (omega arith) (omega arith) (omega arith)))

  reads-sealed : (ps : Pairs) → WritableMembers ps → (f d : ℕ) → size_pairs ps ≤ f → size_pairs ps ≤ d
      → Reads (sealed (value f d) (names_of ps)) (encode_values ps) ps
  reads-sealed no_pairs w f d hf hd = reads-ret
  reads-sealed (pair x t ps) w f d hf hd =
      reads-bind _ (reads-tree t w.1 f d (omega arith) (omega arith))
      (reads-last _ (reads-sealed ps w.2 f d (omega arith) (omega arith)) reads-ret)

  reads-entries : (es : Entries) → WritableEntries es → (f d : ℕ) → size_entries es ≤ f → size_entries es ≤ d
      → Reads (entries (value f d) (count_entries es)) (encode_entries es) es
  reads-entries no_entries w f d hf hd = reads-ret
  reads-entries (entry a b es) w f d hf hd =
      regroup (encode a ++ (encode b ++ encode_entries es)) (simp append_assoc)
      (reads-bind _ (reads-tree a w.0 f d (omega arith) (omega arith))
      (reads-bind _ (reads-tree b w.1 f d (omega arith) (omega arith))
      (reads-last _ (reads-entries es w.2 f d (omega arith) (omega arith)) reads-ret)))

-- ---- the round trip

-- a value that was written is read, with any tables, at any place and whatever follows it, by any fuels that are more than the bytes
pub round : (t : Tree) → Writable t → (f d : ℕ) (s : Tables) (p : ℕ) (rest : List ℕ) → length (encode t ++ rest) < f → length (encode t ++ rest) < d
    → (s' : Tables) × (value f d s p (encode t ++ rest) ≡ ok t s' (p + length (encode t)) rest)
round t w f d s p rest hf hd =
    let n : ℕ = suc (length (encode t ++ rest) + size t) in
    let (s', e) = (reads-tree t w n n (omega arith) (omega arith)).reads s p rest in
    (s', value_fuel f d n n s p (encode t ++ rest) hf hd (omega arith) (omega arith) ∙ e)

pub standard-round : (t : Tree) → Writable t → (rest : List ℕ)
    → (s : Tables) × (standard (encode t ++ rest) ≡ ok t s (length (encode t)) rest)
standard-round t w rest =
    let n : ℕ = suc (length (encode t ++ rest)) in
    let (s, e) = round t w n n no_tables 0 rest (omega arith) (omega arith) in
    (s, sym (standard_fuel n n (encode t ++ rest) (omega arith) (omega arith)) ∙ e ∙ ap (λ (q : ℕ). ok t s q rest) (omega arith))

-- no encoding begins another, and none is two trees'
pub prefix_free : (t u : Tree) → Writable t → Writable u → (x y : List ℕ) → encode t ++ x ≡ encode u ++ y → (t ≡ u) × (x ≡ y)
prefix_free t u h k x y e =
    let (s, e₁) = standard-round t h x in
    let (s', e₂) = standard-round u k y in
    let both : ok t s (length (encode t)) x ≡ ok u s' (length (encode u)) y = sym e₁ ∙ ap standard e ∙ e₂ in
    (cc, cc)
