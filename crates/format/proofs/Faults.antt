-- The tests of a row fail exactly for document 01's reasons.
use mathlib.Core.Path.{◌≡◌, refl}
use mathlib.Core.Bool.{Bool, true, false, cond, not, ◌&&◌, ◌||◌}
use mathlib.Core.Logic.{◌≢◌}
use mathlib.Core.List.{List}
use Prim.Native.Nat.{ℕ, zero, suc, ◌+◌, ◌*◌, ◌-◌, ◌^◌, ◌≤◌, ◌<◌}
use native.Mathlib.Omega.{arith}
use native.Mathlib.Decide.{ℕ_discrete}
use borrow.Author.Tests.{leb-true, leb-false, ltb-true, ltb-false, eqb-true, eq-eqb, ne_eqb, le-ltb, lt-leb, not-false}
use lib.Dec.{leb, ltb, eqb, lit≤}
use lib.ListN.{length}
use Rattle.wire.specs.Date.{refused_date}
use Rattle.rows.specs.Memory.{rows_in, col, col_kind, col_key_mark, col_key_begin, col_key_size, col_body_begin, col_body_size, col_class_mark, col_flag, col_number, col_count}
use Rattle.rows.specs.Memory.{col_count2, col_end}
use Rattle.rows.specs.Kinds.{kind_undefined, kind_boolean, kind_integer, kind_date, kind_object, kind_object_vector, kind_int_vector, kind_uint_vector, kind_double_vector, kind_reference}
use Rattle.utf8.specs.Grammar.{valid_text}
use Rattle.format.specs.Standard.{is_star}
use Rattle.format.specs.Unfold.{body_of, key_text}
use Rattle.format.specs.RowTest.{has_text, has_body, has_class, has_flag, has_number, has_count, has_count2, is_object, is_raw, span_fits, mark_fits, meant, columns_fit, signed_fits}
use Rattle.format.specs.RowTest.{value_fits, children, closes, Given, keyless, any_key, full_key, given, mark_of, is_filled, well_formed, number_writable, body_writable, key_writable}
use Rattle.format.specs.RowTest.{writable}
use Rattle.format.specs.Faults.{BadSpan, past, empty_past, BadMark, no_mark, unmarked, marked, Outside, between, beyond, Malformed, Unwritable}
use Rattle.format.specs.Faults as why
use Rattle.format.proofs.Tests.{on_bool, both, neither, clash}

-- ---- tests

-- the first part of a test fails, or it holds and the second does
on_and : {X : Type 0} (t u : Bool) → (t && u) ≡ false → (t ≡ false → X) → (t ≡ true → u ≡ false → X) → X
on_and true u e f g = g refl e
on_and false u e f g = f refl

-- the second of six parts holds
second-of : (a b c d e f : Bool) → (a && b && c && d && e && f) ≡ true → b ≡ true
second-of a b c d e f h = (both a b (both (a && b) c (both (a && b && c) d (both (a && b && c && d) e (both (a && b && c && d && e) f h).0).0).0).0).1

and-false : (t : Bool) → (t && false) ≡ false
and-false true = refl
and-false false = refl

-- a number isn't 0
above : (n : ℕ) → eqb n 0 ≡ false → 0 < n
above zero e = clash cc
above (suc n) e = omega arith

-- two numbers differ
differs : (a b : ℕ) → eqb a b ≡ false → a ≢ b
differs a b e q = let z = eq-eqb a b q in clash cc

-- a column that has no meaning, or is 0
meant-not : (has : Bool) (v : ℕ) → meant has v ≡ false → (has ≡ false) × (0 < v)
meant-not true v e = clash cc
meant-not false v e = (refl, above v e)

-- ---- spans and marks

bad-span : (B : List ℕ) (b s : ℕ) → span_fits B b s ≡ false → BadSpan B b s
unfolding span_fits
bad-span B b s e = on_bool (eqb s 0)
    (λ z. empty_past (eqb-true s 0 z) (above b (rw z at e)))
    (λ z. past (above s z) (leb-false (b + s) (length B) (rw z at e)))

span-fits : (B : List ℕ) (b s : ℕ) → span_fits B b s ≡ true → BadSpan B b s → ⊥
unfolding span_fits
span-fits B b s e (past l h) = (let z : eqb s 0 ≡ false = ne_eqb s 0 (λ q. omega arith) in let k = leb-true (b + s) (length B) (rw z at e) in omega arith)
span-fits B b s e (empty_past q h) = (let k = eqb-true b 0 (rw (eq-eqb s 0 q) at e) in omega arith)

bad-mark : (B : List ℕ) (m b s : ℕ) → mark_fits B m b s ≡ false → BadMark B m b s
unfolding mark_fits
bad-mark B m b s e = on_bool (eqb m 0)
    (λ z. unmarked (eqb-true m 0 z) (on_and (eqb b 0) (eqb s 0) (rw z at e) (λ f. (let k = above b f in omega arith)) (λ g f. (let k = above s f in omega arith))))
    (λ z. on_and (eqb m 1) (span_fits B b s) (rw z at e) (λ f. (let k = above m z in let d = differs m 1 f in no_mark (omega (arith, d))))
    (λ g f. marked (eqb-true m 1 g) (bad-span B b s f)))

mark-fits : (B : List ℕ) (m b s : ℕ) → mark_fits B m b s ≡ true → BadMark B m b s → ⊥
unfolding mark_fits
mark-fits B m b s e (no_mark h) =
    let z : eqb m 0 ≡ false = ne_eqb m 0 (λ q. omega arith) in
    let k = eqb-true m 1 (both (eqb m 1) (span_fits B b s) (rw z at e)).0 in
    omega arith
mark-fits B m b s e (unmarked q h) =
    let (f, g) = both (eqb b 0) (eqb s 0) (rw (eq-eqb m 0 q) at e) in
    let i = eqb-true b 0 f in
    let j = eqb-true s 0 g in
    omega arith
mark-fits B m b s e (marked q h) =
    let z : eqb m 0 ≡ false = ne_eqb m 0 (λ p. omega arith) in
    span-fits B b s (both (eqb m 1) (span_fits B b s) (rw z at e)).1 h

-- ---- numbers

-- as a signed number of 64 bits
outside : (h n : ℕ) → 2 ^ h ≤ 2 ^ 64 → signed_fits h n ≡ false → Outside h n
unfolding signed_fits
outside h n w e =
    let (f, g) = neither (ltb n (2 ^ h)) (leb (2 ^ 64 - 2 ^ h) n && ltb n (2 ^ 64)) e in
    let l = ltb-false n (2 ^ h) f in
    on_and (leb (2 ^ 64 - 2 ^ h) n) (ltb n (2 ^ 64)) g
    (λ a. between l (let k = leb-false (2 ^ 64 - 2 ^ h) n a in omega arith)) (λ a b. beyond (ltb-false n (2 ^ 64) b))

signed-fits : (h n : ℕ) → 2 ^ h ≤ 2 ^ 64 → Outside h n → signed_fits h n ≡ false
unfolding signed_fits
signed-fits h n w (between l k) = rw (le-ltb n (2 ^ h) l, lt-leb (2 ^ 64 - 2 ^ h) n (omega arith))
signed-fits h n w (beyond l) = rw (le-ltb n (2 ^ h) (omega arith), le-ltb n (2 ^ 64) l, and-false (leb (2 ^ 64 - 2 ^ h) n))

module _ (R B : List ℕ) (i : ℕ) where
  -- ---- columns

  bad-columns : columns_fit R B i (col R i col_kind) ≡ false → Malformed R B i
  unfolding columns_fit
  bad-columns e =
      on_and _ (meant (has_count2 (col R i col_kind)) (col R i col_count2)) e (λ e.
      on_and _ (meant (has_count (col R i col_kind)) (col R i col_count)) e (λ e.
      on_and _ (meant (has_number (col R i col_kind)) (col R i col_number)) e (λ e.
      on_and _ (leb (col R i col_flag) 1) e (λ e.
      on_and _ (meant (has_flag (col R i col_kind)) (col R i col_flag)) e (λ e. class_or e)
      (λ h e. (let (f, g) = meant-not (has_flag (col R i col_kind)) (col R i col_flag) e in why.no_flag f g)))
      (λ h e. why.bad_flag (leb-false (col R i col_flag) 1 e)))
      (λ h e. (let (f, g) = meant-not (has_number (col R i col_kind)) (col R i col_number) e in why.no_number f g)))
      (λ h e. (let (f, g) = meant-not (has_count (col R i col_kind)) (col R i col_count) e in why.no_count f g)))
      (λ h e. (let (f, g) = meant-not (has_count2 (col R i col_kind)) (col R i col_count2) e in why.no_count2 f g))
    where
      class_or : cond (has_class (col R i col_kind)) (mark_fits B (col R i col_class_mark) (col R i col_body_begin) (col R i col_body_size))
          (eqb (col R i col_class_mark) 0 && meant (has_body (col R i col_kind)) (col R i col_body_size) && span_fits B (col R i col_body_begin) (col R i col_body_size)) ≡ false → Malformed R B i
      class_or e = on_bool (has_class (col R i col_kind))
          (λ c. why.bad_class c (bad-mark B (col R i col_class_mark) (col R i col_body_begin) (col R i col_body_size) (rw c at e)))
          (λ c. on_and _ (span_fits B (col R i col_body_begin) (col R i col_body_size)) (rw c at e) (λ e.
          on_and (eqb (col R i col_class_mark) 0) (meant (has_body (col R i col_kind)) (col R i col_body_size)) e (λ f. why.no_class c (above (col R i col_class_mark) f))
          (λ h f. (let (p, q) = meant-not (has_body (col R i col_kind)) (col R i col_body_size) f in why.no_body c p q)))
          (λ h f. why.bad_body c (bad-span B (col R i col_body_begin) (col R i col_body_size) f)))

  -- ---- values

  bad-value : value_fits R i (col R i col_kind) ≡ false → Malformed R B i
  unfolding value_fits
  bad-value e =
      on_bool (eqb (col R i col_kind) kind_boolean)
      (λ t. why.bad_boolean (eqb-true (col R i col_kind) kind_boolean t) (leb-false (col R i col_number) 1 (rw t at e))) (λ a.
      on_bool (eqb (col R i col_kind) kind_integer)
      (λ t. why.bad_integer (eqb-true (col R i col_kind) kind_integer t) (outside 31 (col R i col_number) (lit≤ tt) (rw (a, t) at e))) (λ b.
      on_bool (eqb (col R i col_kind) kind_double_vector)
      (λ t. why.bad_doubles (eqb-true (col R i col_kind) kind_double_vector t) (differs (col R i col_body_size) (8 * col R i col_count) (rw (a, b, t) at e))) (λ c.
      on_bool (is_raw (col R i col_kind))
      (λ t. raw-kind t c (differs (col R i col_body_size) (4 * col R i col_count) (rw (a, b, c, t) at e))) (λ d.
      on_bool (eqb (col R i col_kind) kind_reference)
      (λ t. bad-target (eqb-true (col R i col_kind) kind_reference t) (rw (a, b, c, d, t) at e))
      (λ t. (let z : true ≡ false = rw (a, b, c, d, t) at e in clash cc))))))
    where
      raw-kind : is_raw (col R i col_kind) ≡ true → eqb (col R i col_kind) kind_double_vector ≡ false → col R i col_body_size ≢ 4 * col R i col_count → Malformed R B i
      raw-kind t c n =
          let (p, q) = both (leb kind_int_vector (col R i col_kind)) (leb (col R i col_kind) kind_double_vector) t in
          let l = leb-true kind_int_vector (col R i col_kind) p in
          let h = leb-true (col R i col_kind) kind_double_vector q in
          let d = differs (col R i col_kind) kind_double_vector c in
          elim (ℕ_discrete (col R i col_kind) kind_int_vector) [
            | yes k ↦ why.bad_ints k n
            | no k ↦ why.bad_uints (omega (arith, d, k)) n
          ]

      bad-target : col R i col_kind ≡ kind_reference
          → (ltb (col R i col_number) i && leb (col R (col R i col_number) col_end) i && is_object (col R (col R i col_number) col_kind)) ≡ false → Malformed R B i
      bad-target k e =
          on_and _ (is_object (col R (col R i col_number) col_kind)) e (λ e.
          on_and (ltb (col R i col_number) i) (leb (col R (col R i col_number) col_end) i) e (λ f. why.later_target k (ltb-false (col R i col_number) i f))
          (λ h f. why.open_target k (leb-false (col R (col R i col_number) col_end) i f))) (λ h f. why.odd_target k f)

  -- ---- a key that doesn't suit

  -- a mark that fits and isn't 1 is 0
  no_key : mark_fits B (col R i col_key_mark) (col R i col_key_begin) (col R i col_key_size) ≡ true → eqb (col R i col_key_mark) 1 ≡ false → col R i col_key_mark ≡ 0
  no_key h e =
      let d = differs (col R i col_key_mark) 1 e in
      elim (ℕ_discrete (col R i col_key_mark) 0) [
        | yes z ↦ z
        | no z ↦ absurd (mark-fits B (col R i col_key_mark) (col R i col_key_begin) (col R i col_key_size) h (no_mark (omega (arith, d, z))))
      ]

  bad-given : (g : Given) → given R i ≡ g → mark_fits B (col R i col_key_mark) (col R i col_key_begin) (col R i col_key_size) ≡ true
      → eqb (col R i col_key_mark) (mark_of g) ≡ false → Malformed R B i
  bad-given keyless q h e = why.key_ungiven q (above (col R i col_key_mark) e)
  bad-given any_key q h e = why.key_missing (λ k. clash cc) (no_key h e)
  bad-given full_key q h e = why.key_missing (λ k. clash cc) (no_key h e)

  -- a row that isn't well formed is malformed for one of the reasons
  pub malformed : well_formed R B i ≡ false → Malformed R B i
  unfolding well_formed
  malformed e =
      on_and _ (eqb (col R i col_key_mark) (mark_of (given R i))) e (λ e.
      on_and _ (closes R (col R i col_end) (suc i) (children R i)) e (λ e.
      on_and _ (leb (col R i col_end) (rows_in R)) e (λ e.
      on_and _ (value_fits R i (col R i col_kind)) e (λ e.
      on_and _ (columns_fit R B i (col R i col_kind)) e (λ e.
      on_and _ (mark_fits B (col R i col_key_mark) (col R i col_key_begin) (col R i col_key_size)) e (λ e.
      on_and _ (leb (col R i col_kind) kind_reference) e (λ e.
      on_and (ltb i (col R 0 col_end)) (leb kind_undefined (col R i col_kind)) e (λ f. why.after_root (ltb-false i (col R 0 col_end) f))
      (λ h f. why.below_kinds (leb-false kind_undefined (col R i col_kind) f)))
      (λ h f. why.above_kinds (leb-false (col R i col_kind) kind_reference f)))
      (λ h f. why.bad_key (bad-mark B (col R i col_key_mark) (col R i col_key_begin) (col R i col_key_size) f)))
      (λ h f. bad-columns f))
      (λ h f. bad-value f))
      (λ h f. why.bad_end (leb-false (col R i col_end) (rows_in R) f)))
      (λ h f. why.bad_children f))
      (λ h f. bad-given (given R i) refl (second-of (ltb i (col R 0 col_end) && leb kind_undefined (col R i col_kind) && leb (col R i col_kind) kind_reference)
      (mark_fits B (col R i col_key_mark) (col R i col_key_begin) (col R i col_key_size)) (columns_fit R B i (col R i col_kind)) (value_fits R i (col R i col_kind)) (leb (col R i col_end) (rows_in R))
      (closes R (col R i col_end) (suc i) (children R i)) h) f)

  -- ---- and one that is has none of them

  columns-fit : columns_fit R B i (col R i col_kind) ≡ true → (cond (has_class (col R i col_kind)) (mark_fits B (col R i col_class_mark) (col R i col_body_begin) (col R i col_body_size))
      (eqb (col R i col_class_mark) 0 && meant (has_body (col R i col_kind)) (col R i col_body_size) && span_fits B (col R i col_body_begin) (col R i col_body_size)) ≡ true)
      × (meant (has_flag (col R i col_kind)) (col R i col_flag) ≡ true) × (leb (col R i col_flag) 1 ≡ true) × (meant (has_number (col R i col_kind)) (col R i col_number) ≡ true)
      × (meant (has_count (col R i col_kind)) (col R i col_count) ≡ true) × (meant (has_count2 (col R i col_kind)) (col R i col_count2) ≡ true)
  unfolding columns_fit
  columns-fit e =
      let (p, a) = both _ (meant (has_count2 (col R i col_kind)) (col R i col_count2)) e in
      let (q, b) = both _ (meant (has_count (col R i col_kind)) (col R i col_count)) p in
      let (r, c) = both _ (meant (has_number (col R i col_kind)) (col R i col_number)) q in
      let (s, d) = both _ (leb (col R i col_flag) 1) r in
      let (t, f) = both _ (meant (has_flag (col R i col_kind)) (col R i col_flag)) s in
      (t, f, d, c, b, a)

  -- a column that has no meaning is 0
  is_zero : (has : Bool) (v : ℕ) → meant has v ≡ true → has ≡ false → 0 < v → ⊥
  is_zero true v e q l = clash cc
  is_zero false v e q l = let k = eqb-true v 0 e in omega arith

  -- the parts of the test
  record Formed : Type 0 where
    root : ltb i (col R 0 col_end) ≡ true
    low : leb kind_undefined (col R i col_kind) ≡ true
    high : leb (col R i col_kind) kind_reference ≡ true
    key : mark_fits B (col R i col_key_mark) (col R i col_key_begin) (col R i col_key_size) ≡ true
    columns : columns_fit R B i (col R i col_kind) ≡ true
    value : value_fits R i (col R i col_kind) ≡ true
    within : leb (col R i col_end) (rows_in R) ≡ true
    walked : closes R (col R i col_end) (suc i) (children R i) ≡ true
    suits : eqb (col R i col_key_mark) (mark_of (given R i)) ≡ true

  formed : well_formed R B i ≡ true → Formed
  unfolding well_formed
  formed e =
      let (p, a) = both _ (eqb (col R i col_key_mark) (mark_of (given R i))) e in
      let (q, b) = both _ (closes R (col R i col_end) (suc i) (children R i)) p in
      let (r, c) = both _ (leb (col R i col_end) (rows_in R)) q in
      let (s, d) = both _ (value_fits R i (col R i col_kind)) r in
      let (t, f) = both _ (columns_fit R B i (col R i col_kind)) s in
      let (u, g) = both _ (mark_fits B (col R i col_key_mark) (col R i col_key_begin) (col R i col_key_size)) t in
      let (v, h) = both _ (leb (col R i col_kind) kind_reference) u in
      let (w, j) = both (ltb i (col R 0 col_end)) (leb kind_undefined (col R i col_kind)) v in
      record { root = w; low = j; high = h; key = g; columns = f; value = d; within = c; walked = b; suits = a }

  -- what a kind asks of its value
  value_of : (k : ℕ) → col R i col_kind ≡ k → value_fits R i (col R i col_kind) ≡ true → value_fits R i k ≡ true
  value_of k q e = rw q at e

  boolean-fits : value_fits R i kind_boolean ≡ true → 1 < col R i col_number → ⊥
  unfolding value_fits
  boolean-fits e l = let k = leb-true (col R i col_number) 1 e in omega arith

  integer-fits : value_fits R i kind_integer ≡ true → Outside 31 (col R i col_number) → ⊥
  unfolding value_fits
  integer-fits e o = let z = signed-fits 31 (col R i col_number) (lit≤ tt) o in clash cc

  ints-fit : value_fits R i kind_int_vector ≡ true → col R i col_body_size ≡ 4 * col R i col_count
  unfolding value_fits
  ints-fit e = eqb-true (col R i col_body_size) (4 * col R i col_count) e

  uints-fit : value_fits R i kind_uint_vector ≡ true → col R i col_body_size ≡ 4 * col R i col_count
  unfolding value_fits
  uints-fit e = eqb-true (col R i col_body_size) (4 * col R i col_count) e

  doubles-fit : value_fits R i kind_double_vector ≡ true → col R i col_body_size ≡ 8 * col R i col_count
  unfolding value_fits
  doubles-fit e = eqb-true (col R i col_body_size) (8 * col R i col_count) e

  target_fits : value_fits R i kind_reference ≡ true
      → (ltb (col R i col_number) i ≡ true) × (leb (col R (col R i col_number) col_end) i ≡ true) × (is_object (col R (col R i col_number) col_kind) ≡ true)
  unfolding value_fits
  target_fits e =
      let (p, a) = both _ (is_object (col R (col R i col_number) col_kind)) e in
      let (b, c) = both (ltb (col R i col_number) i) (leb (col R (col R i col_number) col_end) i) p in
      (b, c, a)

  -- a class, or what stands in its columns
  class-fits : has_class (col R i col_kind) ≡ true → columns_fit R B i (col R i col_kind) ≡ true
      → mark_fits B (col R i col_class_mark) (col R i col_body_begin) (col R i col_body_size) ≡ true
  class-fits c e = rw c at (columns-fit e).0

  body-fits : has_class (col R i col_kind) ≡ false → columns_fit R B i (col R i col_kind) ≡ true
      → (eqb (col R i col_class_mark) 0 ≡ true) × (meant (has_body (col R i col_kind)) (col R i col_body_size) ≡ true)
      × (span_fits B (col R i col_body_begin) (col R i col_body_size) ≡ true)
  body-fits c e =
      let (p, a) = both _ (span_fits B (col R i col_body_begin) (col R i col_body_size)) (rw c at (columns-fit e).0) in
      let (b, d) = both (eqb (col R i col_class_mark) 0) (meant (has_body (col R i col_kind)) (col R i col_body_size)) p in
      (b, d, a)

  -- a key that a row is given
  key-given : (g : Given) → g ≢ keyless → eqb (col R i col_key_mark) (mark_of g) ≡ true → col R i col_key_mark ≡ 1
  key-given keyless n e = absurd (n refl)
  key-given any_key n e = eqb-true (col R i col_key_mark) 1 e
  key-given full_key n e = eqb-true (col R i col_key_mark) 1 e

  none_of : Formed → Malformed R B i → ⊥
  none_of h (why.after_root l) = let k = ltb-true i (col R 0 col_end) h.root in omega arith
  none_of h (why.below_kinds l) = let k = leb-true kind_undefined (col R i col_kind) h.low in omega arith
  none_of h (why.above_kinds l) = let k = leb-true (col R i col_kind) kind_reference h.high in omega arith
  none_of h (why.bad_key l) = mark-fits B (col R i col_key_mark) (col R i col_key_begin) (col R i col_key_size) h.key l
  none_of h (why.bad_class c l) = mark-fits B (col R i col_class_mark) (col R i col_body_begin) (col R i col_body_size) (class-fits c h.columns) l
  none_of h (why.bad_flag l) = let k = leb-true (col R i col_flag) 1 (columns-fit h.columns).2 in omega arith
  none_of h (why.bad_body c l) = span-fits B (col R i col_body_begin) (col R i col_body_size) (body-fits c h.columns).2 l
  none_of h (why.no_class c l) = let k = eqb-true (col R i col_class_mark) 0 (body-fits c h.columns).0 in omega arith
  none_of h (why.no_body c q l) = is_zero (has_body (col R i col_kind)) (col R i col_body_size) (body-fits c h.columns).1 q l
  none_of h (why.no_flag q l) = is_zero (has_flag (col R i col_kind)) (col R i col_flag) (columns-fit h.columns).1 q l
  none_of h (why.no_number q l) = is_zero (has_number (col R i col_kind)) (col R i col_number) (columns-fit h.columns).3 q l
  none_of h (why.no_count q l) = is_zero (has_count (col R i col_kind)) (col R i col_count) (columns-fit h.columns).4 q l
  none_of h (why.no_count2 q l) = is_zero (has_count2 (col R i col_kind)) (col R i col_count2) (columns-fit h.columns).5 q l
  none_of h (why.bad_children q) = let k = h.walked in clash cc
  none_of h (why.bad_end l) = let k = leb-true (col R i col_end) (rows_in R) h.within in omega arith
  none_of h (why.key_ungiven q l) = let k = eqb-true (col R i col_key_mark) (mark_of keyless) (rw q at h.suits) in omega arith
  none_of h (why.key_missing n q) = let k = key-given (given R i) n h.suits in omega arith
  none_of h (why.bad_ints q n) = n (ints-fit (value_of kind_int_vector q h.value))
  none_of h (why.bad_uints q n) = n (uints-fit (value_of kind_uint_vector q h.value))
  none_of h (why.bad_doubles q n) = n (doubles-fit (value_of kind_double_vector q h.value))
  none_of h (why.bad_boolean q l) = boolean-fits (value_of kind_boolean q h.value) l
  none_of h (why.bad_integer q o) = integer-fits (value_of kind_integer q h.value) o
  none_of h (why.later_target q l) = let k = ltb-true (col R i col_number) i (target_fits (value_of kind_reference q h.value)).0 in omega arith
  none_of h (why.open_target q l) = let k = leb-true (col R (col R i col_number) col_end) i (target_fits (value_of kind_reference q h.value)).1 in omega arith
  none_of h (why.odd_target q l) = let k = (target_fits (value_of kind_reference q h.value)).2 in clash cc

  pub well-formed : well_formed R B i ≡ true → Malformed R B i → ⊥
  well-formed e = none_of (formed e)

  -- ---- 14

  bad-number : number_writable R i (col R i col_kind) ≡ false → Unwritable R B i
  unfolding number_writable
  bad-number e =
      on_bool (eqb (col R i col_kind) kind_integer)
      (λ t. why.long_integer (eqb-true (col R i col_kind) kind_integer t) (outside 28 (col R i col_number) (lit≤ tt) (rw t at e))) (λ a.
      on_bool (eqb (col R i col_kind) kind_date)
      (λ t. why.no_date (eqb-true (col R i col_kind) kind_date t) (not-false (refused_date (col R i col_number)) (rw (a, t) at e)))
      (λ t. (let z : true ≡ false = rw (a, t) at e in clash cc)))

  -- a class is an object's or a vector's
  class-kind : has_class (col R i col_kind) ≡ true → eqb (col R i col_kind) kind_object ≡ false → col R i col_kind ≡ kind_object_vector
  class-kind c n = eqb-true (col R i col_kind) kind_object_vector (rw n at c)

  bad-class : has_class (col R i col_kind) ≡ true → col R i col_class_mark ≡ 1
      → (valid_text (body_of R B i) && cond (eqb (col R i col_kind) kind_object) (ltb 0 (col R i col_body_size)) (not (is_star (body_of R B i)))) ≡ false → Unwritable R B i
  bad-class c q e =
      on_and (valid_text (body_of R B i)) _ e (λ f. why.bad_class_text c q f) (λ h f.
      on_bool (eqb (col R i col_kind) kind_object)
      (λ k. why.empty_class (eqb-true (col R i col_kind) kind_object k) q (let l = ltb-false 0 (col R i col_body_size) (rw k at f) in omega arith))
      (λ k. why.star_class (class-kind c k) q (star (is_star (body_of R B i)) (rw k at f))))
    where
      star : (t : Bool) → not t ≡ false → t ≡ true
      star true e = refl
      star false e = clash cc

  bad-body : body_writable R B i (col R i col_kind) ≡ false → Unwritable R B i
  unfolding body_writable
  bad-body e =
      on_bool (has_text (col R i col_kind)) (λ t. why.bad_text t (rw t at e)) (λ t.
      on_bool (has_class (col R i col_kind) && eqb (col R i col_class_mark) 1)
      (λ c. (let (p, q) = both (has_class (col R i col_kind)) (eqb (col R i col_class_mark) 1) c in bad-class p (eqb-true (col R i col_class_mark) 1 q) (rw (t, c) at e)))
      (λ c. (let z : true ≡ false = rw (t, c) at e in clash cc)))

  bad-key : (g : Given) → given R i ≡ g → (ltb 0 (col R i col_key_size) || not (is_filled g)) ≡ false → Unwritable R B i
  bad-key keyless q e = let (f, g) = neither (ltb 0 (col R i col_key_size)) true e in clash cc
  bad-key any_key q e = let (f, g) = neither (ltb 0 (col R i col_key_size)) true e in clash cc
  bad-key full_key q e = let (f, g) = neither (ltb 0 (col R i col_key_size)) false e in why.empty_key q (let l = ltb-false 0 (col R i col_key_size) f in omega arith)

  -- a row that can't be written has one of the reasons
  pub unwritable : writable R B i ≡ false → Unwritable R B i
  unfolding writable key_writable
  unwritable e =
      on_and _ (valid_text (key_text R B i) && (ltb 0 (col R i col_key_size) || not (is_filled (given R i)))) e
      (λ e. on_and (number_writable R i (col R i col_kind)) (body_writable R B i (col R i col_kind)) e bad-number (λ h. bad-body))
      (λ h e. on_and (valid_text (key_text R B i)) (ltb 0 (col R i col_key_size) || not (is_filled (given R i))) e why.bad_key_text (λ k. bad-key (given R i) refl))

  -- the parts of its test
  record Written : Type 0 where
    number : number_writable R i (col R i col_kind) ≡ true
    body : body_writable R B i (col R i col_kind) ≡ true
    text : valid_text (key_text R B i) ≡ true
    full : (ltb 0 (col R i col_key_size) || not (is_filled (given R i))) ≡ true

  written : writable R B i ≡ true → Written
  unfolding writable key_writable
  written e =
      let (p, a) = both _ (valid_text (key_text R B i) && (ltb 0 (col R i col_key_size) || not (is_filled (given R i)))) e in
      let (b, c) = both (number_writable R i (col R i col_kind)) (body_writable R B i (col R i col_kind)) p in
      let (d, f) = both (valid_text (key_text R B i)) (ltb 0 (col R i col_key_size) || not (is_filled (given R i))) a in
      record { number = b; body = c; text = d; full = f }

  integer-short : number_writable R i kind_integer ≡ true → Outside 28 (col R i col_number) → ⊥
  unfolding number_writable
  integer-short e o = let z = signed-fits 28 (col R i col_number) (lit≤ tt) o in clash cc

  date-finite : number_writable R i kind_date ≡ true → refused_date (col R i col_number) ≡ true → ⊥
  unfolding number_writable
  date-finite e l = let z : false ≡ true = rw l at e in clash cc

  number_of : (k : ℕ) → col R i col_kind ≡ k → number_writable R i (col R i col_kind) ≡ true → number_writable R i k ≡ true
  number_of k q e = rw q at e

  -- the text of a row that has one; a given class
  text-valid : has_text (col R i col_kind) ≡ true → body_writable R B i (col R i col_kind) ≡ true → valid_text (body_of R B i) ≡ true
  unfolding body_writable
  text-valid t e = rw t at e

  class-valid : has_class (col R i col_kind) ≡ true → col R i col_class_mark ≡ 1 → body_writable R B i (col R i col_kind) ≡ true
      → (valid_text (body_of R B i) && cond (eqb (col R i col_kind) kind_object) (ltb 0 (col R i col_body_size)) (not (is_star (body_of R B i)))) ≡ true
  unfolding body_writable
  class-valid c q e = rw (no_text c, c, eq-eqb (col R i col_class_mark) 1 q) at e
    where
      no_text : has_class (col R i col_kind) ≡ true → has_text (col R i col_kind) ≡ false
      no_text c = elim (ℕ_discrete (col R i col_kind) kind_object) [
        | yes k ↦ rw k
        | no k ↦ (let z = class-kind c (ne_eqb (col R i col_kind) kind_object k) in rw z)
      ]

  key-full : (g : Given) → g ≡ full_key → (ltb 0 (col R i col_key_size) || not (is_filled g)) ≡ true → col R i col_key_size ≡ 0 → ⊥
  key-full keyless q e z = clash cc
  key-full any_key q e z = clash cc
  key-full full_key q e z = let o : (ltb 0 0 || false) ≡ true = rw z at e in clash cc

  none-unwritable : Written → Unwritable R B i → ⊥
  none-unwritable h (why.bad_text t e) = let k = text-valid t h.body in clash cc
  none-unwritable h (why.bad_class_text c q e) = let k = (both (valid_text (body_of R B i)) _ (class-valid c q h.body)).0 in clash cc
  none-unwritable h (why.bad_key_text e) = let k = h.text in clash cc
  none-unwritable h (why.long_integer q o) = integer-short (number_of kind_integer q h.number) o
  none-unwritable h (why.no_date q l) = date-finite (number_of kind_date q h.number) l
  none-unwritable h (why.empty_key q z) = key-full (given R i) q h.full z
  none-unwritable h (why.empty_class k q z) =
      let e = (both (valid_text (body_of R B i)) _ (class-valid (rw k) q h.body)).1 in
      let l = ltb-true 0 (col R i col_body_size) (rw (eq-eqb (col R i col_kind) kind_object k) at e) in
      omega arith
  none-unwritable h (why.star_class k q s) =
      let e = (both (valid_text (body_of R B i)) _ (class-valid (rw k) q h.body)).1 in
      let l : not (is_star (body_of R B i)) ≡ true = rw (ne_eqb (col R i col_kind) kind_object (λ z. omega arith)) at e in
      let o : not true ≡ true = rw s at l in
      clash cc

  pub can_write : writable R B i ≡ true → Unwritable R B i → ⊥
  can_write e = none-unwritable (written e)
