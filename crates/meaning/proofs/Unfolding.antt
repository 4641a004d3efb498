-- Rows that stand for a tree unfold to it, by levels enough.
use mathlib.Core.Path.{◌≡◌, refl, ap, ◌∙◌}
use mathlib.Core.Bool.{not}
use mathlib.Core.List.{List, [], ◌∷◌}
use Prim.Native.Nat.{ℕ, zero, suc, ◌+◌, ◌*◌, ◌<◌, ◌≤◌}
use native.Mathlib.Omega.{arith}
use native.Mathlib.Nat.{mul-le-mul_right}
use native.Mathlib.Numerals.{add-one}
use lib.Dec.{eqb}
use lib.ListN.{get_or}
use Rattle.rows.specs.Memory.{col_kind, col_end, rows_in, col}
use Rattle.wire.specs.Sign.{of_column}
use Rattle.format.specs.Unfold.{part, home, after, trees_at, pairs_at, entries_at, node, tree_at}
use Rattle.format.specs.Unfold as flatly
use Rattle.format.specs.Standard.{Plain, undefined, null, boolean, integer, double, string, xml_document, xml, byte_array, date, int_vector, uint_vector}
use Rattle.format.specs.Standard.{double_vector, Tree, plain, array, object, object_vector, dictionary, Trees, nil, cons, Pairs, no_pairs, pair, Entries}
use Rattle.format.specs.Standard.{no_entries, entry, count, count_pairs, count_entries}
use Rattle.format.proofs.Tests.{clash}
use Rattle.meaning.proofs.Ground.{Land, at}
use Rattle.meaning.proofs.Rep.{Face, face, flag_of, class_of, other, leaf, Head, goal, From, itself, before}
use Rattle.meaning.proofs.Rep.{Own, RepT, RepP, RepE, Rep, own-head}
use Rattle.rows.specs.Memory.{row_width}
use Rattle.rows.specs.Memory.{col_key_begin, col_key_size, col_body_begin, col_body_size, col_class_mark, col_flag, col_number, col_count, col_count2}

-- a leaf's face decides the node alone
pick : (F : Face) (A O U D : Tree) (p : Plain) (k : ℕ) → get_or
    (other ∷ plain undefined ∷ plain null ∷ plain (boolean (not (eqb F.number 0))) ∷ plain (integer (of_column F.number)) ∷ plain
    (double F.number) ∷ plain (string F.body) ∷ plain (xml_document F.body) ∷ plain (date F.number) ∷ other ∷ other ∷ plain
    (xml F.body) ∷ plain (byte_array F.body) ∷ plain (int_vector (flag_of F) F.body) ∷ plain (uint_vector (flag_of F) F.body) ∷ plain
    (double_vector (flag_of F) F.body) ∷ []) k other ≡ plain p
    → get_or (plain null ∷ plain undefined ∷ plain null ∷ plain (boolean (not (eqb F.number 0))) ∷ plain (integer (of_column F.number)) ∷ plain
    (double F.number) ∷ plain (string F.body) ∷ plain (xml_document F.body) ∷ plain (date F.number) ∷ A ∷ O ∷ plain (xml F.body) ∷ plain
    (byte_array F.body) ∷ plain (int_vector (flag_of F) F.body) ∷ plain (uint_vector (flag_of F) F.body) ∷ plain
    (double_vector (flag_of F) F.body) ∷ U ∷ D ∷ []) k (plain null) ≡ plain p
pick F A O U D p zero h = clash cc
pick F A O U D p (suc zero) h = h
pick F A O U D p (suc (suc zero)) h = h
pick F A O U D p (suc (suc (suc zero))) h = h
pick F A O U D p (suc (suc (suc (suc zero)))) h = h
pick F A O U D p (suc (suc (suc (suc (suc zero))))) h = h
pick F A O U D p (suc (suc (suc (suc (suc (suc zero)))))) h = h
pick F A O U D p (suc (suc (suc (suc (suc (suc (suc zero))))))) h = h
pick F A O U D p (suc (suc (suc (suc (suc (suc (suc (suc zero)))))))) h = h
pick F A O U D p (suc (suc (suc (suc (suc (suc (suc (suc (suc zero))))))))) h = clash cc
pick F A O U D p (suc (suc (suc (suc (suc (suc (suc (suc (suc (suc zero)))))))))) h = clash cc
pick F A O U D p (suc (suc (suc (suc (suc (suc (suc (suc (suc (suc (suc zero))))))))))) h = h
pick F A O U D p (suc (suc (suc (suc (suc (suc (suc (suc (suc (suc (suc (suc zero)))))))))))) h = h
pick F A O U D p (suc (suc (suc (suc (suc (suc (suc (suc (suc (suc (suc (suc (suc zero))))))))))))) h = h
pick F A O U D p (suc (suc (suc (suc (suc (suc (suc (suc (suc (suc (suc (suc (suc (suc zero)))))))))))))) h = h
pick F A O U D p (suc (suc (suc (suc (suc (suc (suc (suc (suc (suc (suc (suc (suc (suc (suc zero))))))))))))))) h = h
pick F A O U D p (suc (suc (suc (suc (suc (suc (suc (suc (suc (suc (suc (suc (suc (suc (suc (suc zero)))))))))))))))) h = clash cc
pick F A O U D p (suc (suc (suc (suc (suc (suc (suc (suc (suc (suc (suc (suc (suc (suc (suc (suc (suc zero))))))))))))))))) h =
    clash cc
pick F A O U D p (suc (suc (suc (suc (suc (suc (suc (suc (suc (suc (suc (suc (suc (suc (suc (suc (suc (suc k)))))))))))))))))) h =
    clash cc

-- rows R and store B show what L has
pub record View (L : Land) (R B : List ℕ) : Type 0 where
  pub many : rows_in R ≡ L.used
  pub cols : (r j : ℕ) → r < L.used → j < row_width → col R r j ≡ at L r j
  pub texts : (b z : ℕ) → b + z ≤ L.full → part B b z ≡ part L.store b z

trees-up : (ts : Trees) (L : Land) (k e : ℕ) → RepT ts L k e → k ≤ e
trees-up nil L k e h = omega arith
trees-up (cons t ts) L k e h = let u = trees-up ts L (at L k col_end) e h.1 in let d = h.0.0.0 in omega arith

pairs-up : (ps : Pairs) (L : Land) (k e : ℕ) → RepP ps L k e → k ≤ e
pairs-up no_pairs L k e h = omega arith
pairs-up (pair x t ps) L k e h = let u = pairs-up ps L (at L k col_end) e h.2 in let d = h.0.0.0 in omega arith

entries-up : (es : Entries) (L : Land) (k e : ℕ) → RepE es L k e → k ≤ e
entries-up no_entries L k e h = omega arith
entries-up (entry a b es) L k e h =
    let u = entries-up es L (at L (at L k col_end) col_end) e h.2 in let d = h.0.0.0 in let f = h.1.0.0 in omega arith

module _ (L : Land) (R B : List ℕ) (v : View L R B) where
  home-is : (r : ℕ) → r < L.used → home R r ≡ goal L r
  unfolding home
  home-is r h = rw (v.cols r col_kind h (omega arith), v.cols r col_number h (omega arith))

  face-is : (r : ℕ) → Head L r → (flatly.body_of R B r ≡ (face L r).body) × (flatly.class_text R B r ≡ class_of (face L r))
      × (flatly.flag_set R r ≡ flag_of (face L r))
  face-is r h =
      let u : r < L.used = (let a = h.0 in let b = h.1 in omega arith) in
      let b : flatly.body_of R B r ≡ (face L r).body = rw (v.cols r col_body_begin u (omega arith), v.cols r col_body_size u (omega arith), v.texts _ _ h.2) in
      (b, rw (v.cols r col_class_mark u (omega arith), b), rw (v.cols r col_flag u (omega arith)))

  node-plain : (f : ℕ → Tree) (r : ℕ) (p : Plain) → Head L r → leaf (face L r) ≡ plain p → node f R B r ≡ plain p
  unfolding node
  node-plain f r p h e =
      let u : r < L.used = (let a = h.0 in let b = h.1 in omega arith) in
      let x = face-is r h in
      rw (v.cols r col_kind u (omega arith), v.cols r col_number u (omega arith), x.0, x.2) (pick (face L r) _ _ _ _ p (at L r col_kind) e)

  pairs-after : (ps : Pairs) (k e : ℕ) → RepP ps L k e → after R k (count_pairs ps) ≡ e
  unfolding after count_pairs
  pairs-after no_pairs k e h = h
  pairs-after (pair x t ps) k e h =
      let d = h.0.0 in
      let u : k < L.used = (let a = d.0 in let b = d.1 in omega arith) in
      ap (λ z. after R z (count_pairs ps)) (v.cols k col_end u (omega arith)) ∙ pairs-after ps (at L k col_end) e h.2

  -- the levels that row g needs: fewer the less rows come before its end, and the later it begins
  abbrev Fit : ℕ → ℕ → Type 0
  Fit g l = at L g col_end * L.used ≤ l + g

  -- a child of row low, which ends at row top
  child : (t : Tree) (k l low top : ℕ) → Rep t L k → low < k → at L k col_end ≤ top → top * L.used ≤ l + low → low < L.used
      → ((l : ℕ) → Fit (goal L k) l → node (tree_at l R B) R B (goal L k) ≡ t) → tree_at l R B k ≡ t
  unfolding tree_at
  child t k zero low top h a b c d f =
      let z = h.0.0 in let q : 1 ≤ top = omega arith in absurd (omega (arith, mul-le-mul_right L.used q))
  child t k (suc l) low top h a b c d f =
      let u : k < L.used = (let x = h.0.0 in let y = h.0.1 in omega arith) in
      rw (home-is k u) (f l (fit (goal L k) h.1))
    where
      fit : (g : ℕ) → From L k g → Fit g l
      fit g (itself e) = rw e (omega (arith, mul-le-mul_right L.used b))
      fit g (before o) =
          let x = h.0.0 in let q : suc (at L g col_end) ≤ top = omega arith in omega (arith, mul-le-mul_right L.used q)

  mutual
    unfolding node trees_at pairs_at entries_at count count_pairs count_entries

    pub own-tree : (t : Tree) (g l : ℕ) → Own t L g → Fit g l → node (tree_at l R B) R B g ≡ t
    own-tree (plain p) g l h w = node-plain (tree_at l R B) g p h.0 h.1
    own-tree (array ps ts) g l h w =
        let u : g < L.used = (let a = h.0.0 in let b = h.0.1 in omega arith) in
        let i = h.1 in
        let y = trees-up ts L h.2.0 (at L g col_end) h.2.2 in
        let z = pairs-up ps L (suc g) h.2.0 h.2.1 in
        rw (
          v.cols g col_kind u (omega arith),
          i.0,
          v.cols g col_count u (omega arith),
          v.cols g col_count2 u (omega arith),
          i.1,
          i.2,
          add-one g,
          pairs-after ps
              (suc g) h.2.0 h.2.1,
          pairs-tree ps (suc g) h.2.0 l g (at L g col_end) h.2.1 (omega arith) y w u,
          trees-tree ts h.2.0 (at L g col_end) l g (at L g col_end) h.2.2 (omega arith) (omega arith) w u,
        )
    own-tree (object x ps qs) g l h w =
        let u : g < L.used = (let a = h.0.0 in let b = h.0.1 in omega arith) in
        let i = h.1 in
        let y = pairs-up qs L h.2.0 (at L g col_end) h.2.2 in
        let z = pairs-up ps L (suc g) h.2.0 h.2.1 in
        rw (
          v.cols g col_kind u (omega arith),
          i.0,
          v.cols g col_count u (omega arith),
          v.cols g col_count2 u (omega arith),
          i.2,
          i.3,
          add-one g,
          pairs-after ps
              (suc g) h.2.0 h.2.1,
          pairs-tree ps (suc g) h.2.0 l g (at L g col_end) h.2.1 (omega arith) y w u,
          pairs-tree qs h.2.0 (at L g col_end) l g (at L g col_end) h.2.2 (omega arith) (omega arith) w u,
        )
        (ap (λ z. object z ps qs) ((face-is g h.0).1 ∙ i.1))
    own-tree (object_vector f x ts) g l h w =
        let u : g < L.used = (let a = h.0.0 in let b = h.0.1 in omega arith) in
        let i = h.1 in
        rw (
          v.cols g col_kind u (omega arith),
          i.0,
          v.cols g col_count u (omega arith),
          i.3,
          add-one g,
          trees-tree ts (suc g) (at L g col_end) l g (at L g col_end) h.2 (omega arith) (omega arith) w u,
        )
        (ap (λ z. object_vector (flatly.flag_set R g) z ts) ((face-is g h.0).1 ∙ i.2) ∙ ap (λ z. object_vector z x ts) ((face-is g h.0).2 ∙ i.1))
    own-tree (dictionary f es) g l h w =
        let u : g < L.used = (let a = h.0.0 in let b = h.0.1 in omega arith) in
        let i = h.1 in
        rw (
          v.cols g col_kind u (omega arith),
          i.0,
          v.cols g col_count u (omega arith),
          i.2,
          add-one g,
          entries-tree es (suc g) (at L g col_end) l g (at L g col_end) h.2 (omega arith) (omega arith) w u,
        )
        (ap (λ z. dictionary z es) ((face-is g h.0).2 ∙ i.1))

    trees-tree : (ts : Trees) (k e l low top : ℕ) → RepT ts L k e → low < k → e ≤ top → top * L.used ≤ l + low → low < L.used
        → trees_at (tree_at l R B) R k (count ts) ≡ ts
    trees-tree nil k e l low top h a b w u = refl
    trees-tree (cons t ts) k e l low top h a b w u =
        let d = h.0.0 in
        let n : k < L.used = (let x = d.0 in let y = d.1 in omega arith) in
        let y = trees-up ts L (at L k col_end) e h.1 in
        let x = d.0 in
        let p = child t k l low top h.0 a (omega arith) w u (λ l f. own-tree t (goal L k) l h.0.2 f) in
        let q = trees-tree ts (at L k col_end) e l low top h.1 (omega arith) b w u in
        let c = v.cols k col_end n (omega arith) in
        ap (λ z. cons (tree_at l R B k) (trees_at (tree_at l R B) R z (count ts))) c ∙ ap
        (λ z. cons z (trees_at (tree_at l R B) R (at L k col_end) (count ts))) p
        ∙ ap (cons t) q

    pairs-tree : (ps : Pairs) (k e l low top : ℕ) → RepP ps L k e → low < k → e ≤ top → top * L.used ≤ l + low → low < L.used
        → pairs_at (tree_at l R B) R B k (count_pairs ps) ≡ ps
    pairs-tree no_pairs k e l low top h a b w u = refl
    pairs-tree (pair x t ps) k e l low top h a b w u =
        let d = h.0.0 in
        let n : k < L.used = (let x = d.0 in let y = d.1 in omega arith) in
        let y = pairs-up ps L (at L k col_end) e h.2 in
        let z = d.0 in
        let p = child t k l low top h.0 a (omega arith) w u (λ l f. own-tree t (goal L k) l h.0.2 f) in
        let q = pairs-tree ps (at L k col_end) e l low top h.2 (omega arith) b w u in
        let c = v.cols k col_end n (omega arith) in
        let r : flatly.key_text R B k ≡ x = rw (v.cols k col_key_begin n (omega arith), v.cols k col_key_size n (omega arith), v.texts _ _ h.1.1) h.1.0 in
        ap (λ z. pair (flatly.key_text R B k) (tree_at l R B k) (pairs_at (tree_at l R B) R B z (count_pairs ps))) c
        ∙ ap (λ z. pair z (tree_at l R B k) (pairs_at (tree_at l R B) R B (at L k col_end) (count_pairs ps))) r
        ∙ ap (λ z. pair x z (pairs_at (tree_at l R B) R B (at L k col_end) (count_pairs ps))) p ∙ ap (pair x t) q

    entries-tree : (es : Entries) (k e l low top : ℕ) → RepE es L k e → low < k → e ≤ top → top * L.used ≤ l + low → low < L.used
        → entries_at (tree_at l R B) R k (count_entries es) ≡ es
    entries-tree no_entries k e l low top h a b w u = refl
    entries-tree (entry s t es) k e l low top h a b w u =
        let d = h.0.0 in
        let x = d.0 in
        let d₁ = h.1.0 in
        let x₁ = d₁.0 in
        let k₁ : ℕ = at L k col_end in
        let n : k < L.used = (let y = d.1 in omega arith) in
        let n₁ : k₁ < L.used = (let y = d₁.1 in omega arith) in
        let y = entries-up es L (at L k₁ col_end) e h.2 in
        let p = child s k l low top h.0 a (omega arith) w u (λ l f. own-tree s (goal L k) l h.0.2 f) in
        let p₁ = child t k₁ l low top h.1 (omega arith) (omega arith) w u (λ l f. own-tree t (goal L k₁) l h.1.2 f) in
        let q = entries-tree es (at L k₁ col_end) e l low top h.2 (omega arith) b w u in
        let c = v.cols k col_end n (omega arith) in
        let c₁ = v.cols k₁ col_end n₁ (omega arith) in
        let F : ℕ → Tree = tree_at l R B in
        ap (λ z. entry (F k) (F z) (entries_at F R (col R z col_end) (count_entries es))) c
        ∙ ap (λ z. entry (F k) (F k₁) (entries_at F R z (count_entries es))) c₁
        ∙ ap (λ z. entry z (F k₁) (entries_at F R (at L k₁ col_end) (count_entries es))) p
        ∙ ap (λ z. entry s z (entries_at F R (at L k₁ col_end) (count_entries es))) p₁ ∙ ap (entry s t) q

  -- to more levels than the square of the rows
  pub rep-unfolds : (t : Tree) (r l : ℕ) → Rep t L r → L.used * L.used ≤ l → tree_at (suc l) R B r ≡ t
  unfolding tree_at
  rep-unfolds t r l h m =
      let u : r < L.used = (let a = h.0.0 in let b = h.0.1 in omega arith) in
      let e = (own-head t L (goal L r) h.2).1 in
      rw (home-is r u) (own-tree t (goal L r) l h.2 (omega (arith, mul-le-mul_right L.used e)))
