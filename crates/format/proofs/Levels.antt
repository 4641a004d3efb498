-- As many levels as rows are enough for rows that pass 13: the tree of a row is made of those of its children, each reference being its target's.
use mathlib.Core.Path.{◌≡◌, refl, sym}
use mathlib.Core.Bool.{cond}
use mathlib.Core.List.{List}
use Prim.Native.Nat.{ℕ, zero, suc, ◌+◌, ◌*◌, ◌-◌, ◌<◌, ◌≤◌}
use native.Mathlib.Omega.{arith}
use native.Mathlib.Decide.{ℕ_discrete, dec_lt}
use native.Mathlib.Numerals.{add-one}
use borrow.Author.Tests.{lt-ltb, le-ltb}
use lib.Dec.{ltb}
use Rattle.rows.specs.Memory.{col_kind, col_count, col_count2, col_end, rows_in, col}
use Rattle.format.specs.Standard.{Tree}
use Rattle.format.specs.Unfold.{home, after, trees_at, pairs_at, entries_at, node, tree_at, unfolded}
use Rattle.format.specs.RowTest.{children, tested, fine}
use Rattle.format.proofs.Tests.{on_bool}
use Rattle.format.proofs.Tested.{Formed, tested-rows, Walk, done, next, Child, Ends, row_ends, walk_start, walk_after, walk-long}
use Rattle.format.proofs.Tested.{Home, itself, target, home_of, home-row, kind-is}
use Rattle.rows.specs.Kinds.{kind_byte_array}
use Rattle.rows.specs.Kinds.{kind_undefined, kind_null, kind_boolean, kind_integer, kind_double, kind_string, kind_xml_document, kind_date, kind_array, kind_object}
use Rattle.rows.specs.Kinds.{kind_xml, kind_int_vector, kind_uint_vector, kind_double_vector, kind_object_vector, kind_dictionary, kind_reference}

-- ---- the rows around a row

module _ (R : List ℕ) where
  -- how many of the first m rows end past row x; of the first x, these are around it
  unfoldable around : ℕ → ℕ → ℕ
  around zero x = 0
  around (suc m) x = cond (ltb x (col R m col_end)) (suc (around m x)) (around m x)

  -- no more than there are
  around-few : (m x : ℕ) → around m x ≤ m
  unfolding around
  around-few zero x = omega arith
  around-few (suc m) x =
      let a = around-few m x in
      on_bool (ltb x (col R m col_end)) (λ t. rw t (omega arith)) (λ t. rw t (omega arith))

  -- d rows more are no fewer, and d more at most
  around-more : (d m x : ℕ) → (around m x ≤ around (m + d) x) × (around (m + d) x ≤ around m x + d)
  unfolding around
  around-more zero m x = let e : m + 0 ≡ m = omega arith in rw e (omega arith, omega arith)
  around-more (suc d) m x =
      let e : m + suc d ≡ suc (m + d) = omega arith in
      let (a, b) = around-more d m x in
      rw e (on_bool (ltb x (col R (m + d) col_end)) (λ t. rw t (omega arith, omega arith)) (λ t. rw t (omega arith, omega arith)))

  -- rows that end at x or before are none more
  around-past : (d m x : ℕ) → ((q : ℕ) → m ≤ q → q < m + d → col R q col_end ≤ x) → around (m + d) x ≤ around m x
  unfolding around
  around-past zero m x h = let e : m + 0 ≡ m = omega arith in rw e (omega arith)
  around-past (suc d) m x h =
      let e : m + suc d ≡ suc (m + d) = omega arith in
      rw (e, le-ltb x (col R (m + d) col_end) (h (m + d) (omega arith) (omega arith))) (around-past d m x (λ q a b. h q a (omega arith)))

  -- those that end past y, if they all end past x
  around-less : (m x y : ℕ) → ((q : ℕ) → q < m → y < col R q col_end → x < col R q col_end) → around m y ≤ around m x
  unfolding around
  around-less zero x y h = omega arith
  around-less (suc m) x y h =
      let a = around-less m x y (λ q l. h q (omega arith)) in
      elim (dec_lt y (col R m col_end)) [
        | yes l ↦ rw (lt-ltb y (col R m col_end) l, lt-ltb x (col R m col_end) (h m (omega arith) l)) (omega arith)
        | no l ↦
            rw (le-ltb y (col R m col_end) (omega arith))
            (on_bool (ltb x (col R m col_end)) (λ t. rw t (omega arith)) (λ t. rw t (omega arith)))
      ]

module _ (R B : List ℕ) (rows : (i : ℕ) → i < rows_in R → Formed R B i) where
  -- ---- a row's tree looks only at its children

  module _ (f g : ℕ → Tree) (p : ℕ) (h : p < rows_in R) (agree : (k j : ℕ) → Child R p (col R p col_end) k j → f k ≡ g k) where
    abbrev stop : ℕ
    stop = col R p col_end

    trees-same : (n : ℕ) {c k j : ℕ} → n ≤ c → Walk R p stop k j c → trees_at f R k n ≡ trees_at g R k n
    unfolding trees_at
    trees-same zero l w = refl
    trees-same (suc n) l done = absurd (omega arith)
    trees-same (suc n) l (next {k = k} {j = j} x w) = rw (agree k j x, trees-same n (omega arith) w)

    pairs-same : (n : ℕ) {c k j : ℕ} → n ≤ c → Walk R p stop k j c → pairs_at f R B k n ≡ pairs_at g R B k n
    unfolding pairs_at
    pairs-same zero l w = refl
    pairs-same (suc n) l done = absurd (omega arith)
    pairs-same (suc n) l (next {k = k} {j = j} x w) = rw (agree k j x, pairs-same n (omega arith) w)

    entries-same : (n : ℕ) {c k j : ℕ} → 2 * n ≤ c → Walk R p stop k j c → entries_at f R k n ≡ entries_at g R k n
    unfolding entries_at
    entries-same zero l w = refl
    entries-same (suc n) l done = absurd (omega arith)
    entries-same (suc n) l (next x done) = absurd (omega arith)
    entries-same (suc n) l (next {k = k} {j = j} x (next y w)) =
        rw (agree k j x, agree (col R k col_end) (suc j) y, entries-same n (omega arith) w)

    walk : (c : ℕ) → children R p ≡ c → Walk R p stop (suc p) 0 c
    walk c e = rw e at (walk_start R B rows p h)

    -- those of an array and of an object
    two-same : children R p ≡ col R p col_count + col R p col_count2
        → (pairs_at f R B (p + 1) (col R p col_count) ≡ pairs_at g R B (p + 1) (col R p col_count))
        × (trees_at f R (after R (p + 1) (col R p col_count)) (col R p col_count2) ≡ trees_at g R (after R (p + 1) (col R p col_count)) (col R p col_count2))
        × (pairs_at f R B (after R (p + 1) (col R p col_count)) (col R p col_count2) ≡ pairs_at g R B (after R (p + 1) (col R p col_count)) (col R p col_count2))
    two-same e =
        let n : ℕ = col R p col_count in
        let m : ℕ = col R p col_count2 in
        let w = walk (n + m) e in
        let w₁ = walk_after R p stop n (omega arith) w in
        rw (add-one p) (pairs-same n (omega arith) w, trees-same m (omega arith) w₁, pairs-same m (omega arith) w₁)

    -- those of a vector, and of a dictionary
    one_same : children R p ≡ col R p col_count → trees_at f R (p + 1) (col R p col_count) ≡ trees_at g R (p + 1) (col R p col_count)
    one_same e = rw (add-one p) (trees-same (col R p col_count) (omega arith) (walk (col R p col_count) e))

    both-same : children R p ≡ 2 * col R p col_count → entries_at f R (p + 1) (col R p col_count) ≡ entries_at g R (p + 1) (col R p col_count)
    both-same e = rw (add-one p) (entries-same (col R p col_count) (omega arith) (walk (2 * col R p col_count) e))

    node-same : node f R B p ≡ node g R B p
    unfolding node children
    node-same =
        kind-is (col R p col_kind) 0 (omega arith) (λ e. rw e) λ l.
        kind-is (col R p col_kind) kind_undefined l (λ e. rw e) λ l.
        kind-is (col R p col_kind) kind_null l (λ e. rw e) λ l.
        kind-is (col R p col_kind) kind_boolean l (λ e. rw e) λ l.
        kind-is (col R p col_kind) kind_integer l (λ e. rw e) λ l.
        kind-is (col R p col_kind) kind_double l (λ e. rw e) λ l.
        kind-is (col R p col_kind) kind_string l (λ e. rw e) λ l.
        kind-is (col R p col_kind) kind_xml_document l (λ e. rw e) λ l.
        kind-is (col R p col_kind) kind_date l (λ e. rw e) λ l.
        kind-is (col R p col_kind) kind_array l (λ e. (let t = two-same (rw e) in rw (e, t.0, t.1))) λ l.
        kind-is (col R p col_kind) kind_object l (λ e. (let t = two-same (rw e) in rw (e, t.0, t.2))) λ l.
        kind-is (col R p col_kind) kind_xml l (λ e. rw e) λ l.
        kind-is (col R p col_kind) kind_byte_array l (λ e. rw e) λ l.
        kind-is (col R p col_kind) kind_int_vector l (λ e. rw e) λ l.
        kind-is (col R p col_kind) kind_uint_vector l (λ e. rw e) λ l.
        kind-is (col R p col_kind) kind_double_vector l (λ e. rw e) λ l.
        kind-is (col R p col_kind) kind_object_vector l (λ e. rw (e, one_same (rw e))) λ l.
        kind-is (col R p col_kind) kind_dictionary l (λ e. rw (e, both-same (rw e))) λ l.
        kind-is (col R p col_kind) kind_reference l (λ e. rw e) λ l.
        absurd (omega (arith, (rows p h).high))

  -- ---- what falls from a row to the rows that its children stand for

  -- the levels that row j needs at most
  abbrev rank : ℕ → ℕ
  rank j = col R j col_end - around R j j

  -- a row ends behind itself, and the rows in it end with it or before
  ends_late : (j : ℕ) → j < rows_in R → j < col R j col_end
  ends_late j h = omega (arith, walk-long R (col R j col_end) (suc j) (children R j) (rows j h).closed)

  ends_in : (j : ℕ) → j < rows_in R → Ends R j (col R j col_end)
  ends_in j h = row_ends R (rows_in R) (λ i l. (rows i l).closed) (rows_in R) j (omega arith) h (rows j h).end

  -- a child has one row more around it
  around-child : (p k j : ℕ) → p < rows_in R → Child R p (col R p col_end) k j → suc (around R p p) ≤ around R k k
  unfolding around
  around-child p k j h c =
      let b = c.behind in
      let a = c.before in
      let i = c.inside in
      let l : around R p p ≤ around R p k = around-less R p k p (λ q y z. omega (arith, ends_in q (omega arith) p y z)) in
      let e : suc p + (k - suc p) ≡ k = omega arith in
      let m : around R (suc p) k ≤ around R k k = rw e at (around-more R (k - suc p) (suc p) k).0 in
      let n : around R (suc p) k ≡ suc (around R p k) = rw (lt-ltb k (col R p col_end) (omega arith)) in
      omega arith

  -- what is around a row and not around an earlier one that ended lies between them
  around_target : (t k : ℕ) → k < rows_in R → t < k → col R t col_end ≤ k → around R k k + col R t col_end ≤ around R t t + k
  around_target t k h l e =
      let d = ends_late t (omega arith) in
      let i : t + (col R t col_end - t) ≡ col R t col_end = omega arith in
      let j : col R t col_end + (k - col R t col_end) ≡ k = omega arith in
      let a : around R k k ≤ around R (col R t col_end) k + (k - col R t col_end) = rw j at (around-more R (k - col R t col_end) (col R t col_end) k).1 in
      let b : around R (col R t col_end) k ≤ around R t k = rw i at (around-past R (col R t col_end - t) t k inner) in
      let c : around R t k ≤ around R t t = around-less R t t k (λ q y z. omega arith) in
      omega arith
    where
      inner : (q : ℕ) → t ≤ q → q < t + (col R t col_end - t) → col R q col_end ≤ k
      inner q a b =
          elim (ℕ_discrete q t) [
            | yes r ↦ rw r e
            | no r ↦ omega (arith, ends_in t (omega arith) q (omega arith) (omega (arith, ends_late t (omega arith))))
          ]

  -- what a child stands for needs fewer
  child-rank : (p k j : ℕ) → p < rows_in R → Child R p (col R p col_end) k j → rank (home R k) < rank p
  child-rank p k j h c = by (home_of R B rows k c.row)
    where
      by : {m : ℕ} → Home R k m → rank m < rank p
      by itself = omega (arith, around-child p k j h c, around-few R p p, ends_late p h, c.inside)
      by (target {j = m} l e) =
          omega (arith, around-child p k j h c, around-few R p p, ends_late p h, around_target m k c.row l e, c.before, c.inside)

  -- levels that are enough give one tree
  levels : (l m i : ℕ) → i < rows_in R → rank (home R i) ≤ l → rank (home R i) ≤ m → tree_at l R B i ≡ tree_at m R B i
  unfolding tree_at
  levels zero m i h a b = let g = home-row R B rows i h in absurd (omega (arith, around-few R (home R i) (home R i), ends_late (home R i) g))
  levels (suc l) zero i h a b = let g = home-row R B rows i h in absurd (omega (arith, around-few R (home R i) (home R i), ends_late (home R i) g))
  levels (suc l) (suc m) i h a b =
      node-same (tree_at l R B) (tree_at m R B) (home R i) (home-row R B rows i h)
      (λ k j c. levels l m k c.row
      (omega (arith, child-rank (home R i) k j (home-row R B rows i h) c)) (omega (arith, child-rank (home R i) k j (home-row R B rows i h) c)))

  -- more levels than rows change nothing
  pub more-levels : (l i : ℕ) → i < rows_in R → rows_in R ≤ l → tree_at l R B i ≡ unfolded R B i
  unfolding unfolded
  more-levels l i h g =
      let e = (rows (home R i) (home-row R B rows i h)).end in
      levels l (rows_in R) i h (omega arith) (omega arith)

-- the tree of a row is made of those of its children
pub unfolded-node : (R B : List ℕ) → tested R B ≡ fine → (i : ℕ) → i < rows_in R → unfolded R B i ≡ node (unfolded R B) R B (home R i)
unfolding unfolded tree_at
unfolded-node R B t i h = sym (more-levels R B (λ j l. ((tested-rows R B t).1 j l).formed) (suc (rows_in R)) i h (omega arith))
