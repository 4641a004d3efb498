-- Rows stand for trees: what it means, and that they go on doing so while rows and store grow.
use mathlib.Core.Path.{◌≡◌, refl, sym, ◌∙◌, subst}
use mathlib.Core.Bool.{Bool, true, false, cond, not}
use mathlib.Core.List.{List, [], ◌∷◌}
use mathlib.Core.Option.{Option, none, some}
use Prim.Native.Nat.{ℕ, suc, ◌+◌, ◌<◌, ◌≤◌}
use native.Mathlib.Omega.{arith}
use borrow.Author.Tests.{eqb-true}
use lib.Dec.{eqb}
use lib.ListN.{get_or}
use Rattle.rows.specs.Memory.{col_kind, col_key_begin, col_key_size, col_body_begin, col_body_size, col_class_mark, col_flag, col_number, col_count, col_count2}
use Rattle.rows.specs.Memory.{col_end}
use Rattle.wire.specs.Sign.{of_column}
use Rattle.format.specs.Unfold.{part}
use Rattle.format.specs.Standard.{undefined, null, boolean, integer, double, string, xml_document, xml, byte_array, date, int_vector, uint_vector}
use Rattle.format.specs.Standard.{double_vector, Tree, plain, array, object, object_vector, dictionary, Trees, nil, cons, Pairs, no_pairs, pair, Entries}
use Rattle.format.specs.Standard.{no_entries, entry, count, count_pairs, count_entries}
use Rattle.format.proofs.Tests.{clash}
use Rattle.meaning.proofs.Ground.{Land, at, Done, Ext, done-ext}

-- xs is the text of a span of the settled store
abbrev pub Text : List ℕ → ℕ → ℕ → ℕ → List ℕ → Type 0
Text B u begin size xs = (part B begin size ≡ xs) × (begin + size ≤ u)

-- ---- what a row shows of itself

pub record Face : Type 0 where
  pub kind : ℕ
  pub mark : ℕ
  pub flag : ℕ
  pub number : ℕ
  pub first : ℕ
  pub second : ℕ
  pub body : List ℕ

abbrev pub face : Land → ℕ → Face
face L r =
    record {
      kind = at L r col_kind;
      mark = at L r col_class_mark;
      flag = at L r col_flag;
      number = at L r col_number;
      first = at L r col_count;
      second = at L r col_count2;
      body = part L.store (at L r col_body_begin) (at L r col_body_size);
    }

abbrev pub flag_of : Face → Bool
flag_of F = not (eqb F.flag 0)

abbrev pub class_of : Face → Option (List ℕ)
class_of F = cond (eqb F.mark 0) none (some F.body)

-- no leaf
abbrev pub other : Tree
other = array no_pairs nil

abbrev pub leaf : Face → Tree
leaf F =
    get_or (other ∷ plain undefined ∷ plain null ∷ plain (boolean (not (eqb F.number 0))) ∷ plain (integer (of_column F.number))
    ∷ plain (double F.number) ∷ plain (string F.body) ∷ plain (xml_document F.body) ∷ plain (date F.number) ∷ other ∷ other
    ∷ plain (xml F.body) ∷ plain (byte_array F.body) ∷ plain (int_vector (flag_of F) F.body)
    ∷ plain (uint_vector (flag_of F) F.body) ∷ plain (double_vector (flag_of F) F.body) ∷ []) F.kind other

-- it is the face of a tree's own row
abbrev pub Is : Tree → Face → Type 0
Is (plain p) F = leaf F ≡ plain p
Is (array ps ts) F = (F.kind ≡ 9) × (F.first ≡ count_pairs ps) × (F.second ≡ count ts)
Is (object x ps qs) F = (F.kind ≡ 10) × (class_of F ≡ x) × (F.first ≡ count_pairs ps) × (F.second ≡ count_pairs qs)
Is (object_vector f x ts) F = (F.kind ≡ 16) × (flag_of F ≡ f) × (class_of F ≡ x) × (F.first ≡ count ts)
Is (dictionary f es) F = (F.kind ≡ 17) × (flag_of F ≡ f) × (F.first ≡ count_entries es)

-- ---- what a row stands for

-- a finished row with its face settled
abbrev pub Head : Land → ℕ → Type 0
Head L r = (r < at L r col_end) × (at L r col_end ≤ L.used) × (at L r col_body_begin + at L r col_body_size ≤ L.full)

-- the row whose tree it is: a reference's is another, which ended before
abbrev pub goal : Land → ℕ → ℕ
goal L r = cond (eqb (at L r col_kind) 18) (at L r col_number) r

pub data From (L : Land) (r g : ℕ) : Type 0 where
  itself : g ≡ r → From L r g
  before : at L g col_end ≤ r → From L r g

abbrev mutual
  -- row r itself, no reference
  pub Own : Tree → Land → ℕ → Type 0
  Own (plain p) L r = Head L r × Is (plain p) (face L r)
  Own (array ps ts) L r = Head L r × Is (array ps ts) (face L r) × ((e : ℕ) × RepP ps L (suc r) e × RepT ts L e (at L r col_end))
  Own (object x ps qs) L r = Head L r × Is (object x ps qs) (face L r) × ((e : ℕ) × RepP ps L (suc r) e × RepP qs L e (at L r col_end))
  Own (object_vector f x ts) L r = Head L r × Is (object_vector f x ts) (face L r) × RepT ts L (suc r) (at L r col_end)
  Own (dictionary f es) L r = Head L r × Is (dictionary f es) (face L r) × RepE es L (suc r) (at L r col_end)

  -- rows from k on, each from where the one before ends, up to row e
  pub RepT : Trees → Land → ℕ → ℕ → Type 0
  RepT nil L k e = k ≡ e
  RepT (cons t ts) L k e = (Done L k × From L k (goal L k) × Own t L (goal L k)) × RepT ts L (at L k col_end) e

  pub RepP : Pairs → Land → ℕ → ℕ → Type 0
  RepP no_pairs L k e = k ≡ e
  RepP (pair x t ps) L k e =
      (Done L k × From L k (goal L k) × Own t L (goal L k)) × Text L.store L.full (at L k col_key_begin) (at L k col_key_size) x
      × RepP ps L (at L k col_end) e

  pub RepE : Entries → Land → ℕ → ℕ → Type 0
  RepE no_entries L k e = k ≡ e
  RepE (entry a b es) L k e =
      (Done L k × From L k (goal L k) × Own a L (goal L k))
      × (Done L (at L k col_end) × From L (at L k col_end) (goal L (at L k col_end)) × Own b L (goal L (at L k col_end)))
      × RepE es L (at L (at L k col_end) col_end) e

abbrev pub Rep : Tree → Land → ℕ → Type 0
Rep t L r = Done L r × From L r (goal L r) × Own t L (goal L r)

pub own-head : (t : Tree) (L : Land) (r : ℕ) → Own t L r → Head L r
own-head (plain p) L r h = h.0
own-head (array ps ts) L r h = h.0
own-head (object x ps qs) L r h = h.0
own-head (object_vector f x ts) L r h = h.0
own-head (dictionary f es) L r h = h.0

-- it is no reference
pub own-goal : (t : Tree) (L : Land) (r : ℕ) → Own t L r → goal L r ≡ r
own-goal t L r h = test (eqb (at L r col_kind) 18) refl
  where
    no : (t : Tree) → at L r col_kind ≡ 18 → Own t L r → ⊥
    no (plain p) e h = let z : other ≡ plain p = rw e at h.1 in clash cc
    no (array ps ts) e h = let z = h.1.0 in omega arith
    no (object x ps qs) e h = let z = h.1.0 in omega arith
    no (object_vector f x ts) e h = let z = h.1.0 in omega arith
    no (dictionary f es) e h = let z = h.1.0 in omega arith

    test : (b : Bool) → eqb (at L r col_kind) 18 ≡ b → cond b (at L r col_number) r ≡ r
    test false e = refl
    test true e = absurd (no t (eqb-true _ _ e) h)

pub own-rep : (t : Tree) (L : Land) (r : ℕ) → Own t L r → Rep t L r
own-rep t L r h = let g = own-goal t L r h in let d = own-head t L r h in ((d.0, d.1), itself g, rw g h)

-- ---- it lasts

module _ {L L' : Land} (x : Ext L L') where
  pub text-ext : (b z : ℕ) (xs : List ℕ) → Text L.store L.full b z xs → Text L'.store L'.full b z xs
  text-ext b z xs h = let u = x.fill in (x.parts b z h.1 ∙ h.0, omega arith)

  key-ext : (r : ℕ) (xs : List ℕ) → Done L r → Text L.store L.full (at L r col_key_begin) (at L r col_key_size) xs
      → Text L'.store L'.full (at L' r col_key_begin) (at L' r col_key_size) xs
  key-ext r xs d h = rw (x.cols r col_key_begin d (omega arith), x.cols r col_key_size d (omega arith)) (text-ext _ _ xs h)

  head-ext : (r : ℕ) → Head L r → Head L' r
  head-ext r h =
      let d : Done L r = (h.0, h.1) in
      let u = x.up in
      let f = x.fill in
      rw (x.cols r col_end d (omega arith), x.cols r col_body_begin d (omega arith), x.cols r col_body_size d (omega arith)) (h.0, omega arith, omega arith)

  face-ext : (r : ℕ) → Head L r → face L' r ≡ face L r
  face-ext r h =
      let d : Done L r = (h.0, h.1) in
      rw (
        x.cols r col_kind d (omega arith),
        x.cols r col_class_mark d (omega arith),
        x.cols r col_flag d (omega arith),
        x.cols r col_number d (omega arith),
        x.cols r col_count d (omega arith),
        x.cols r col_count2 d (omega arith),
        x.cols r col_body_begin d (omega arith),
        x.cols r col_body_size d (omega arith),
        x.parts _ _ h.2,
      )

  goal-ext : (r : ℕ) → Done L r → goal L' r ≡ goal L r
  goal-ext r d = rw (x.cols r col_kind d (omega arith), x.cols r col_number d (omega arith))

  is-ext : (t : Tree) (r : ℕ) → Head L r → Is t (face L r) → Is t (face L' r)
  is-ext t r d h = subst (Is t) (sym (face-ext r d)) h

  from-ext : (r g : ℕ) → Done L g → From L r g → From L' r g
  from-ext r g d (itself e) = itself e
  from-ext r g d (before h) = before (rw (x.cols g col_end d (omega arith)) h)

  rep_with : (t : Tree) (k : ℕ) → Rep t L k → Own t L' (goal L k) → Rep t L' k
  rep_with t k h o =
      let g = goal-ext k h.0 in
      let d = own-head t L (goal L k) h.2 in
      (done-ext x k h.0, rw g (from-ext k (goal L k) (d.0, d.1) h.1), rw g o)

  mutual
    pub own-ext : (t : Tree) (r : ℕ) → Own t L r → Own t L' r
    own-ext (plain p) r h = (head-ext r h.0, is-ext (plain p) r h.0 h.1)
    own-ext (array ps ts) r h = (
      head-ext r h.0,
      is-ext (array ps ts) r h.0 h.1,
      (
        h.2.0,
        repp_ext ps (suc r) h.2.0 h.2.1,
        rw (x.cols r col_end (h.0.0, h.0.1) (omega arith)) (rept_ext ts h.2.0 (at L r col_end) h.2.2),
      ),
    )
    own-ext (object z ps qs) r h = (
      head-ext r h.0,
      is-ext (object z ps qs) r h.0 h.1,
      (
        h.2.0,
        repp_ext ps (suc r) h.2.0 h.2.1,
        rw (x.cols r col_end (h.0.0, h.0.1) (omega arith)) (repp_ext qs h.2.0 (at L r col_end) h.2.2),
      ),
    )
    own-ext (object_vector f z ts) r h = (
      head-ext r h.0,
      is-ext (object_vector f z ts) r h.0 h.1,
      rw (x.cols r col_end (h.0.0, h.0.1) (omega arith)) (rept_ext ts (suc r) (at L r col_end) h.2),
    )
    own-ext (dictionary f es) r h = (
      head-ext r h.0,
      is-ext (dictionary f es) r h.0 h.1,
      rw (x.cols r col_end (h.0.0, h.0.1) (omega arith)) (repe_ext es (suc r) (at L r col_end) h.2),
    )

    pub rept_ext : (ts : Trees) (k e : ℕ) → RepT ts L k e → RepT ts L' k e
    rept_ext nil k e h = h
    rept_ext (cons t ts) k e h =
        (rep_with t k h.0 (own-ext t (goal L k) h.0.2), rw (x.cols k col_end h.0.0 (omega arith)) (rept_ext ts (at L k col_end) e h.1))

    pub repp_ext : (ps : Pairs) (k e : ℕ) → RepP ps L k e → RepP ps L' k e
    repp_ext no_pairs k e h = h
    repp_ext (pair z t ps) k e h = (
      rep_with t k h.0 (own-ext t (goal L k) h.0.2),
      key-ext k z h.0.0 h.1,
      rw (x.cols k col_end h.0.0 (omega arith)) (repp_ext ps (at L k col_end) e h.2),
    )

    pub repe_ext : (es : Entries) (k e : ℕ) → RepE es L k e → RepE es L' k e
    repe_ext no_entries k e h = h
    repe_ext (entry a b es) k e h = (
      rep_with a k h.0 (own-ext a (goal L k) h.0.2),
      rw (x.cols k col_end h.0.0 (omega arith)) (rep_with b (at L k col_end) h.1 (own-ext b (goal L (at L k col_end)) h.1.2)),
      rw (x.cols k col_end h.0.0 (omega arith), x.cols (at L k col_end) col_end h.1.0 (omega arith))
          (repe_ext es (at L (at L k col_end) col_end) e h.2),
    )

  pub rep-ext : (t : Tree) (r : ℕ) → Rep t L r → Rep t L' r
  rep-ext t r h = rep_with t r h (own-ext t (goal L r) h.2)

-- ---- a row from its parts

-- what stands behind row r up to row e
abbrev pub Kids : Tree → Land → ℕ → ℕ → Type 0
Kids (plain p) L r e = Unit {0}
Kids (array ps ts) L r e = (k : ℕ) × RepP ps L (suc r) k × RepT ts L k e
Kids (object x ps qs) L r e = (k : ℕ) × RepP ps L (suc r) k × RepP qs L k e
Kids (object_vector f x ts) L r e = RepT ts L (suc r) e
Kids (dictionary f es) L r e = RepE es L (suc r) e

pub own_of : (t : Tree) (L : Land) (r : ℕ) → Head L r → Is t (face L r) → Kids t L r (at L r col_end) → Own t L r
own_of (plain p) L r h i k = (h, i)
own_of (array ps ts) L r h i k = (h, i, k)
own_of (object x ps qs) L r h i k = (h, i, k)
own_of (object_vector f x ts) L r h i k = (h, i, k)
own_of (dictionary f es) L r h i k = (h, i, k)

pub kids-ext : {L L' : Land} → Ext L L' → (t : Tree) (r e : ℕ) → Kids t L r e → Kids t L' r e
kids-ext x (plain p) r e h = tt
kids-ext x (array ps ts) r e h = (h.0, repp_ext x ps (suc r) h.0 h.1, rept_ext x ts h.0 e h.2)
kids-ext x (object z ps qs) r e h = (h.0, repp_ext x ps (suc r) h.0 h.1, repp_ext x qs h.0 e h.2)
kids-ext x (object_vector f z ts) r e h = rept_ext x ts (suc r) e h
kids-ext x (dictionary f es) r e h = repe_ext x es (suc r) e h
