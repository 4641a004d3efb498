-- What the test of the rows says, where all of them pass: of each row by itself, and of the children of a row, one after the other.
use mathlib.Core.Path.{◌≡◌, refl, ap, ◌∙◌}
use mathlib.Core.Bool.{Bool, true, false, cond, not, ◌&&◌, ◌||◌}
use mathlib.Core.List.{List}
use mathlib.Core.Option.{some}
use Prim.Native.Nat.{ℕ, zero, suc, ◌+◌, ◌-◌, ◌<◌, ◌≤◌}
use native.Mathlib.Omega.{arith}
use native.Mathlib.Decide.{ℕ_discrete, dec_lt}
use borrow.Author.Tests.{lt-ltb, le-ltb, ltb-true, leb-true, eqb-true, eqb-false, eq-eqb, ne_eqb}
use lib.Dec.{leb, ltb, eqb}
use lib.ListN.{length, length-take, length-drop}
use Rattle.rows.specs.Memory.{col_kind, col_key_mark, col_key_begin, col_key_size, col_body_begin, col_body_size, rows_in, col}
use Rattle.rows.specs.Memory.{col_class_mark, col_flag, col_number, col_count, col_count2, col_end}
use Rattle.rows.specs.Kinds.{kind_undefined, kind_reference}
use Rattle.utf8.specs.Grammar.{valid_text}
use Rattle.format.specs.Unfold.{part, body_of, key_text, home, after}
use Rattle.format.specs.RowTest as test
use Rattle.format.specs.RowTest.{has_body, has_class, has_flag, has_number, has_count, has_count2, span_fits, mark_fits, meant, columns_fit, value_fits}
use Rattle.format.specs.RowTest.{children, closes, gives, parent_in, number_in, given, mark_of, is_filled, well_formed, number_writable, body_writable}
use Rattle.format.specs.RowTest.{key_writable, writable, Tested, fine, test_from, tested}
use Rattle.format.proofs.Tests.{both, clash}
use Rattle.format.proofs.Lists.{part_length}

-- ---- a row by itself

-- 13 passes
pub record Formed (R B : List ℕ) (i : ℕ) : Type 0 where
  pub within : i < col R 0 col_end
  pub low : kind_undefined ≤ col R i col_kind
  pub high : col R i col_kind ≤ kind_reference
  pub key : mark_fits B (col R i col_key_mark) (col R i col_key_begin) (col R i col_key_size) ≡ true
  pub columns : columns_fit R B i (col R i col_kind) ≡ true
  pub value : value_fits R i (col R i col_kind) ≡ true
  pub end : col R i col_end ≤ rows_in R
  pub closed : closes R (col R i col_end) (suc i) (children R i) ≡ true
  pub mark : col R i col_key_mark ≡ mark_of (given R i)

-- and 14
pub record Row (R B : List ℕ) (i : ℕ) : Type 0 where
  pub formed : Formed R B i
  pub number : number_writable R i (col R i col_kind) ≡ true
  pub body : body_writable R B i (col R i col_kind) ≡ true
  pub name : valid_text (key_text R B i) ≡ true
  pub filled : (ltb 0 (col R i col_key_size) || not (is_filled (given R i))) ≡ true

module _ (R B : List ℕ) where
  -- what the tests say of row i
  pub formed-of : (i : ℕ) → well_formed R B i ≡ true → Formed R B i
  unfolding well_formed
  formed-of i m =
      let (m₈, mark) = both _ (eqb (col R i col_key_mark) (mark_of (given R i))) m in
      let (m₇, closed) = both _ (closes R (col R i col_end) (suc i) (children R i)) m₈ in
      let (m₆, end) = both _ (leb (col R i col_end) (rows_in R)) m₇ in
      let (m₅, value) = both _ (value_fits R i (col R i col_kind)) m₆ in
      let (m₄, columns) = both _ (columns_fit R B i (col R i col_kind)) m₅ in
      let (m₃, key) = both _ (mark_fits B (col R i col_key_mark) (col R i col_key_begin) (col R i col_key_size)) m₄ in
      let (m₂, high) = both _ (leb (col R i col_kind) kind_reference) m₃ in
      let (within, low) = both (ltb i (col R 0 col_end)) (leb kind_undefined (col R i col_kind)) m₂ in
      record {
        within = ltb-true i (col R 0 col_end) within;
        low = leb-true kind_undefined (col R i col_kind) low;
        high = leb-true (col R i col_kind) kind_reference high;
        key = key;
        columns = columns;
        value = value;
        end = leb-true (col R i col_end) (rows_in R) end;
        closed = closed;
        mark = eqb-true (col R i col_key_mark) (mark_of (given R i)) mark;
      }

  row_of : (i : ℕ) → well_formed R B i ≡ true → writable R B i ≡ true → Row R B i
  unfolding writable key_writable
  row_of i m u =
      let (u₁, k) = both _ (valid_text (key_text R B i) && (ltb 0 (col R i col_key_size) || not (is_filled (given R i)))) u in
      let (number, body) = both (number_writable R i (col R i col_kind)) (body_writable R B i (col R i col_kind)) u₁ in
      let (name, filled) = both (valid_text (key_text R B i)) (ltb 0 (col R i col_key_size) || not (is_filled (given R i))) k in
      record { formed = formed-of i m; number = number; body = body; name = name; filled = filled }

  first-row : (a b : Bool) (i : ℕ) (more : Tested) → cond a (cond b more (test.faulty 14 i)) (test.faulty 13 i) ≡ fine
      → (a ≡ true) × (b ≡ true) × (more ≡ fine)
  first-row true true i more e = (refl, refl, e)
  first-row true false i more e = clash cc
  first-row false b i more e = clash cc

  from_row : (n i : ℕ) → test_from R B i n ≡ fine → (x : ℕ) → i ≤ x → x < i + n → Row R B x
  unfolding test_from
  from_row zero i e x l h = absurd (omega arith)
  from_row (suc n) i e x l h =
      let (a, b, more) = first-row (well_formed R B i) (writable R B i) i (test_from R B (suc i) n) e in
      elim (ℕ_discrete x i) [
        | yes q ↦ rw q (row_of i a b)
        | no q ↦ from_row n (suc i) more x (omega arith) (omega arith)
      ]

  -- there are rows, and each passes
  pub tested-rows : tested R B ≡ fine → (0 < rows_in R) × ((i : ℕ) → i < rows_in R → Row R B i)
  unfolding tested
  tested-rows e = by (eqb (rows_in R) 0) refl e
    where
      by : (t : Bool) → eqb (rows_in R) 0 ≡ t → cond t (test.faulty 13 0) (test_from R B 0 (rows_in R)) ≡ fine
          → (0 < rows_in R) × ((i : ℕ) → i < rows_in R → Row R B i)
      by true g e = clash cc
      by false g e = ((let h = eqb-false (rows_in R) 0 g in omega arith), λ i h. from_row (rows_in R) 0 e i (omega arith) (omega arith))

-- ---- spans

module _ (B : List ℕ) where
  pub part-short : (begin size : ℕ) → length (part B begin size) ≤ length B
  unfolding part
  part-short begin size = simp (length-take, length-drop) (omega arith)

  none-length : (begin size : ℕ) → size ≡ 0 → length (part B begin size) ≡ size
  unfolding part
  none-length begin size e = simp (length-take, length-drop) (omega arith)

  span-length : (begin size : ℕ) → span_fits B begin size ≡ true → length (part B begin size) ≡ size
  unfolding span_fits
  span-length begin size e = by (eqb size 0) refl e
    where
      by : (t : Bool) → eqb size 0 ≡ t → cond t (eqb begin 0) (leb (begin + size) (length B)) ≡ true → length (part B begin size) ≡ size
      by true g e = none-length begin size (eqb-true size 0 g)
      by false g e = part_length B begin size (leb-true (begin + size) (length B) e)

  mark-length : (mark begin size : ℕ) → mark_fits B mark begin size ≡ true → length (part B begin size) ≡ size
  unfolding mark_fits
  mark-length mark begin size e = by (eqb mark 0) e
    where
      by : (t : Bool) → cond t (eqb begin 0 && eqb size 0) (eqb mark 1 && span_fits B begin size) ≡ true → length (part B begin size) ≡ size
      by true e = none-length begin size (eqb-true size 0 (both (eqb begin 0) (eqb size 0) e).1)
      by false e = span-length begin size (both (eqb mark 1) (span_fits B begin size) e).1

module _ (R B : List ℕ) (i : ℕ) (row : Row R B i) where
  pub key-length : length (key_text R B i) ≡ col R i col_key_size
  key-length = mark-length B (col R i col_key_mark) (col R i col_key_begin) (col R i col_key_size) row.formed.key

  -- the columns of the body, or of the class
  body-columns : cond (has_class (col R i col_kind)) (mark_fits B (col R i col_class_mark) (col R i col_body_begin) (col R i col_body_size))
      (eqb (col R i col_class_mark) 0 && meant (has_body (col R i col_kind)) (col R i col_body_size)
      && span_fits B (col R i col_body_begin) (col R i col_body_size)) ≡ true
  unfolding columns_fit
  body-columns =
      let (e₅, count2) = both _ (meant (has_count2 (col R i col_kind)) (col R i col_count2)) row.formed.columns in
      let (e₄, count) = both _ (meant (has_count (col R i col_kind)) (col R i col_count)) e₅ in
      let (e₃, number) = both _ (meant (has_number (col R i col_kind)) (col R i col_number)) e₄ in
      let (e₂, most) = both _ (leb (col R i col_flag) 1) e₃ in
      (both _ (meant (has_flag (col R i col_kind)) (col R i col_flag)) e₂).0

  pub body-length : length (body_of R B i) ≡ col R i col_body_size
  body-length = by (has_class (col R i col_kind)) body-columns
    where
      by : (c : Bool) → cond c (mark_fits B (col R i col_class_mark) (col R i col_body_begin) (col R i col_body_size))
          (eqb (col R i col_class_mark) 0 && meant (has_body (col R i col_kind)) (col R i col_body_size)
          && span_fits B (col R i col_body_begin) (col R i col_body_size)) ≡ true
          → length (body_of R B i) ≡ col R i col_body_size
      by true e = mark-length B (col R i col_class_mark) (col R i col_body_begin) (col R i col_body_size) e
      by false e =
          span-length B (col R i col_body_begin) (col R i col_body_size)
          (both (eqb (col R i col_class_mark) 0 && meant (has_body (col R i col_kind)) (col R i col_body_size)) _ e).1

  -- a class is given by the mark 1
  pub class-mark : has_class (col R i col_kind) ≡ true → eqb (col R i col_class_mark) 0 ≡ false → eqb (col R i col_class_mark) 1 ≡ true
  unfolding mark_fits
  class-mark c e = (both (eqb (col R i col_class_mark) 1) _ (rw (c, e) at body-columns)).0

-- ---- the children of row p

-- child k, number j, which ends at row `stop` or before
pub record Child (R : List ℕ) (p stop k j : ℕ) : Type 0 where
  pub behind : p < k
  pub before : k < col R k col_end
  pub inside : col R k col_end ≤ stop
  pub row : k < rows_in R
  -- it is given what p gives its child number j
  pub gift : given R k ≡ gives R p j

-- n of them from row k on, the first number j
pub data Walk (R : List ℕ) (p stop : ℕ) : ℕ → ℕ → ℕ → Type 0 where
  done : {k j : ℕ} → Walk R p stop k j 0
  next : {k j n : ℕ} → Child R p stop k j → Walk R p stop (col R k col_end) (suc j) n → Walk R p stop k j (suc n)

-- behind n of them
pub walk_after : (R : List ℕ) (p stop n : ℕ) {c k j : ℕ} → n ≤ c → Walk R p stop k j c → Walk R p stop (after R k n) (j + n) (c - n)
unfolding after
walk_after R p stop zero {c} {k} {j} l w =
    let a : j + 0 ≡ j = omega arith in
    let b : c - 0 ≡ c = omega arith in
    rw (a, b) w
walk_after R p stop (suc n) l done = absurd (omega arith)
walk_after R p stop (suc n) l (next {j = j} {n = c} x w) =
    let a : suc j + n ≡ j + suc n = omega arith in
    let b : c - n ≡ suc c - suc n = omega arith in
    rw (a, b) at (walk_after R p stop n (omega arith) w)

module _ (R : List ℕ) where
  pub one-closes : (stop k n : ℕ) → closes R stop k (suc n) ≡ true
      → (k < col R k col_end) × (col R k col_end ≤ stop) × (closes R stop (col R k col_end) n ≡ true)
  unfolding closes
  one-closes stop k n e =
      let (d, c) = both (ltb k (col R k col_end) && leb (col R k col_end) stop) (closes R stop (col R k col_end) n) e in
      let (a, b) = both (ltb k (col R k col_end)) (leb (col R k col_end) stop) d in
      (ltb-true k (col R k col_end) a, leb-true (col R k col_end) stop b, c)

  -- so many children have as many rows at least
  pub walk-long : (stop k n : ℕ) → closes R stop k n ≡ true → k + n ≤ stop
  unfolding closes
  walk-long stop k zero e = omega (arith, eqb-true k stop e)
  walk-long stop k (suc n) e = let (a, b, c) = one-closes stop k n e in omega (arith, walk-long stop (col R k col_end) n c)

  -- the row after some children is at or behind the first
  after-up : (stop k n m : ℕ) → closes R stop k n ≡ true → m ≤ n → k ≤ after R k m
  unfolding after
  after-up stop k n zero e l = omega arith
  after-up stop k zero (suc m) e l = absurd (omega arith)
  after-up stop k (suc n) (suc m) e l =
      let (a, b, c) = one-closes stop k n e in
      omega (arith, after-up stop (col R k col_end) n m c (omega arith))

  -- one child more
  pub after_one : (k m : ℕ) → after R k (suc m) ≡ col R (after R k m) col_end
  unfolding after
  after_one k zero = refl
  after_one k (suc m) = after_one (col R k col_end) m

-- the rows behind p and before k end at k or before
abbrev pub Ends : List ℕ → ℕ → ℕ → Type 0
Ends R p k = (q : ℕ) → p < q → q < k → col R q col_end ≤ k

one_more : (R : List ℕ) (p k : ℕ) → k < col R k col_end → Ends R p k → Ends R k (col R k col_end) → Ends R p (col R k col_end)
one_more R p k l f g q a b =
    elim (dec_lt q k) [
      | yes h ↦ omega (arith, f q a h)
      | no h ↦ elim (ℕ_discrete q k) [
        | yes e ↦ rw e (omega arith)
        | no e ↦ g q (omega arith) b
      ]
    ]

-- the children of each of the first `most` rows end with it
abbrev pub Shut : List ℕ → ℕ → Type 0
Shut R most = (i : ℕ) → i < most → closes R (col R i col_end) (suc i) (children R i) ≡ true

module _ (R : List ℕ) (most : ℕ) (closed : Shut R most) where
  -- so do those behind p and before its end
  walk_ends : (p stop : ℕ) → ((k : ℕ) → p < k → k < stop → col R k col_end ≤ stop → Ends R k (col R k col_end))
      → (n k : ℕ) → closes R stop k n ≡ true → p < k → Ends R p k → Ends R p stop
  unfolding closes
  walk_ends p stop deeper zero k e l f = rw (eqb-true k stop e) at f
  walk_ends p stop deeper (suc n) k e l f =
      let (a, b, c) = one-closes R stop k n e in
      walk_ends p stop deeper n (col R k col_end) c (omega arith) (one_more R p k a f (deeper k l (omega arith) b))

  pub row_ends : (d p : ℕ) → most ≤ p + d → p < most → col R p col_end ≤ most → Ends R p (col R p col_end)
  row_ends zero p l h u = absurd (omega arith)
  row_ends (suc d) p l h u =
      walk_ends p (col R p col_end) (λ k x y z. row_ends d k (omega arith) (omega arith) (omega arith)) (children R p) (suc p)
      (closed p h) (omega arith) (λ q x y. absurd (omega arith))

-- ---- parents

module _ (R : List ℕ) where
  -- a row before `stop` lies in one of the children that close there
  record In (k n x : ℕ) : Type 0 where
    number : ℕ
    few : number < n
    behind : k ≤ after R k number
    below : after R k number ≤ x
    inside : x < col R (after R k number) col_end

  -- the child that it lies in
  find : (stop n k x : ℕ) → closes R stop k n ≡ true → k ≤ x → x < stop → In k n x
  unfolding closes after
  find stop zero k x h a b = let e = eqb-true k stop h in absurd (omega arith)
  find stop (suc n) k x h a b =
      let (l, m, e) = one-closes R stop k n h in
      elim (dec_lt x (col R k col_end)) [
        | yes c ↦ record { number = 0; few = omega arith; behind = omega arith; below = a; inside = c }
        | no c ↦
            (let r = find stop n (col R k col_end) x e (omega arith) b in
            let f = r.few in
            let g = r.behind in
            record { number = suc r.number; few = omega arith; behind = omega arith; below = r.below; inside = r.inside })
      ]

  -- row x is a child of an earlier row
  pub record Parent (x : ℕ) : Type 0 where
    pub row : ℕ
    pub number : ℕ
    pub before : row < x
    pub few : number < children R row
    pub is : after R (suc row) number ≡ x

  -- so is every row that lies before the end of an earlier one
  pub parent : (fuel p x : ℕ) → x ≤ p + fuel → Shut R x → p < x → x < col R p col_end → Parent x
  parent zero p x f closed a b = absurd (omega arith)
  parent (suc fuel) p x f closed a b =
      let q = find (col R p col_end) (children R p) (suc p) x (closed p a) a b in
      let g = q.behind in
      let l = q.below in
      elim (dec_lt (after R (suc p) q.number) x) [
        | yes c ↦ parent fuel (after R (suc p) q.number) x (omega arith) closed c q.inside
        | no c ↦ record { row = p; number = q.number; before = a; few = q.few; is = omega arith }
      ]

-- row p is the parent of row k, where it ends past it and the rows between do not
parent-last : (R : List ℕ) (p k m : ℕ) → k < col R p col_end → Ends R p k → p < m → m ≤ k → parent_in R m k ≡ some p
unfolding parent_in
parent-last R p k zero h f l g = absurd (omega arith)
parent-last R p k (suc m) h f l g =
    elim (ℕ_discrete m p) [
      | yes e ↦ rw (e, lt-ltb k (col R p col_end) h)
      | no e ↦ rw (le-ltb k (col R m col_end) (f m (omega arith) (omega arith))) (parent-last R p k m h f (omega arith) (omega arith))
    ]

module _ (R : List ℕ) (i : ℕ) (closed : Shut R i) where
  -- row i behind m of the n children of row p from row k on, the first of them number j
  child-from : (p k j n m : ℕ) → closes R (col R p col_end) k n ≡ true → p < k → Ends R p k
      → ((x : ℕ) → k ≤ x → number_in R x (suc p) 0 (children R p) ≡ number_in R x k j n) → m < n → after R k m ≡ i → given R i ≡ gives R p (j + m)
  unfolding number_in after given
  child-from p k j zero m e l f g h q = absurd (omega arith)
  child-from p k j (suc n) zero e l f g h q =
      let (a, b, c) = one-closes R (col R p col_end) k n e in
      let own : number_in R i k j (suc n) ≡ j = rw (eq-eqb k i q) in
      let s : j + 0 ≡ j = omega arith in
      rw (s, parent-last R p i i (omega arith) (rw q at f) (omega arith) (omega arith), g i (omega arith) ∙ own)
  child-from p k j (suc n) (suc m) e l f g h q =
      let (a, b, c) = one-closes R (col R p col_end) k n e in
      let u = after-up R (col R p col_end) (col R k col_end) n m c (omega arith) in
      let s : j + suc m ≡ suc j + m = omega arith in
      rw s (child-from p (col R k col_end) (suc j) n m c (omega arith)
      (one_more R p k a f (row_ends R i closed i k (omega arith) (omega arith) (omega arith)))
      (λ x y. rw (ne_eqb k x (λ z. omega arith)) at (g x (omega arith))) (omega arith) q)

  -- child number j of row p is given what that gives to it
  pub child-given : (p j : ℕ) → p < i → j < children R p → after R (suc p) j ≡ i → given R i ≡ gives R p j
  child-given p j l h q =
      let s : 0 + j ≡ j = omega arith in
      rw s at (child-from p (suc p) 0 (children R p) j (closed p l) (omega arith) (λ x y z. absurd (omega arith)) (λ x y. refl) h q)

module _ (R B : List ℕ) (rows : (i : ℕ) → i < rows_in R → Formed R B i) where
  walk_from : (p stop k j n : ℕ) → stop ≤ rows_in R → closes R stop k n ≡ true → p < k → after R (suc p) j ≡ k → j + n ≡ children R p
      → Walk R p stop k j n
  walk_from p stop k j zero w e l f g = done
  walk_from p stop k j (suc n) w e l f g =
      let (a, b, c) = one-closes R stop k n e in
      next
      (record {
        behind = l;
        before = a;
        inside = b;
        row = omega arith;
        gift = child-given R k (λ q y. (rows q (omega arith)).closed) p j l (omega arith) f;
      })
      (walk_from p stop (col R k col_end) (suc j) n w c (omega arith) (after_one R (suc p) j ∙ ap (λ (x : ℕ). col R x col_end) f) (omega arith))

  pub walk_start : (p : ℕ) → p < rows_in R → Walk R p (col R p col_end) (suc p) 0 (children R p)
  unfolding after
  walk_start p h = walk_from p (col R p col_end) (suc p) 0 (children R p) (rows p h).end (rows p h).closed (omega arith) refl (omega arith)

-- ---- what a row stands for

-- a row that is no reference stands for itself, a reference for an earlier row that ends at or before it
pub data Home (R : List ℕ) (i : ℕ) : ℕ → Type 0 where
  itself : Home R i i
  target : {j : ℕ} → j < i → col R j col_end ≤ i → Home R i j

module _ (R B : List ℕ) (rows : (i : ℕ) → i < rows_in R → Formed R B i) where
  pub home_of : (i : ℕ) → i < rows_in R → Home R i (home R i)
  unfolding home value_fits
  home_of i h = by (eqb (col R i col_kind) kind_reference) refl
    where
      by : (t : Bool) → eqb (col R i col_kind) kind_reference ≡ t → Home R i (cond t (col R i col_number) i)
      by true e =
          let k : col R i col_kind ≡ kind_reference = eqb-true (col R i col_kind) kind_reference e in
          let t = both (ltb (col R i col_number) i && leb (col R (col R i col_number) col_end) i) _ (rw k at (rows i h).value) in
          let u = both (ltb (col R i col_number) i) (leb (col R (col R i col_number) col_end) i) t.0 in
          target (ltb-true (col R i col_number) i u.0) (leb-true (col R (col R i col_number) col_end) i u.1)
      by false e = itself

  pub home-row : (i : ℕ) → i < rows_in R → home R i < rows_in R
  home-row i h = by (home_of i h)
    where
      by : {j : ℕ} → Home R i j → j < rows_in R
      by itself = h
      by (target l e) = omega arith

-- ---- by the number of a kind

-- c is m, or more
pub kind-is : {X : Type 0} (c m : ℕ) → m ≤ c → (c ≡ m → X) → (suc m ≤ c → X) → X
kind-is c m l f g =
    elim (ℕ_discrete c m) [
      | yes e ↦ f e
      | no e ↦ g (omega arith)
    ]
