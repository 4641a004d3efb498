-- The one pass gives what testing each row by itself gives.
use mathlib.Core.Path.{◌≡◌, refl}
use mathlib.Core.Bool.{Bool, true, false, cond, not, ◌&&◌, ◌||◌}
use mathlib.Core.List.{List}
use mathlib.Core.Logic.{◌≢◌}
use Prim.Native.Nat.{ℕ, zero, suc, ◌+◌, ◌<◌, ◌≤◌}
use Rattle.std.specs.Prelude.{Some, None, min}
use native.Mathlib.Omega.{arith}
use native.Mathlib.Decide.{dec_lt, ℕ_discrete}
use borrow.Author.Tests.{lt-ltb, ltb-true, leb-true, eqb-false, eq-eqb, ne_eqb}
use lib.Dec.{leb, ltb, eqb}
use Rattle.rows.specs.Kinds.{kind_undefined, kind_reference}
use Rattle.rows.specs.Memory.{col_kind, col_key_mark, col_key_begin, col_key_size, col_count, col_end, rows_in, col}
use Rattle.utf8.specs.Grammar.{valid_text}
use Rattle.format.specs.Unfold.{key_text, after}
use Rattle.format.specs.RowTest.{mark_fits, columns_fit, value_fits, children, closes, Given, keyless, gives, given, mark_of, is_filled, well_formed}
use Rattle.format.specs.RowTest.{number_writable, body_writable, key_writable, writable, Tested, faulty, test_from, tested}
use Rattle.format.proofs.Tests.{on_bool, both}
use Rattle.format.proofs.Tested.{Shut}
use Rattle.judge.specs.declared.Least.{Least}
use Rattle.judge.specs.Pass.{row_fits, row_writable, gives_by, is_wrong, is_empty, lower, least, walk_of, on_walk, pass, passed}
use Rattle.judge.proofs.Leasts.{least_of, least_le, below, newest, above, behind, walk_is}
use Rattle.judge.proofs.Parents.{Gets, root, child, only, some}

-- ---- the least faulty row, by any test of a row and what it is given

-- what the pass knows of it at row i
record Low (R : List ℕ) (bad : ℕ → Given → Bool) (i least : ℕ) : Type 0 where
  clean : (k : ℕ) (g : Given) → Gets R i k g → k < least → bad k g ≡ false
  fault : least < rows_in R → (g : Given) × Gets R i least g × (bad least g ≡ true)
  ahead : i ≤ least

module _ (R : List ℕ) (bad : ℕ → Given → Bool) where
  -- row i is faulty just if it is the least
  bad-is : (i l : ℕ) → Low R bad i l → Shut R i → i < rows_in R → i < col R 0 col_end → bad i (given R i) ≡ eqb l i
  bad-is i l L shut h z =
      elim (dec_lt i l) [
        | yes t ↦
            let (g, x) = some R i shut z in
            rw (only R i shut g x, ne_eqb l i (λ e. omega arith)) (L.clean i g x t)
        | no t ↦
            let e : l ≡ i = omega (arith, L.ahead) in
            let f = L.fault (omega arith) in
            rw (eq-eqb l i e) (here e f.0 f.1 f.2)
      ]
    where
      here : l ≡ i → (g : Given) → Gets R i l g → bad l g ≡ true → bad i (given R i) ≡ true
      here e g x b = rw (only R i shut g (rw e at x)) (rw e at b)

  -- the least behind row i
  abbrev next : ℕ → ℕ → ℕ
  next i l = least_of R (gives_by (col R i col_kind) (col R i col_count)) bad (suc i) 0 (children R i) l

  still : {i k : ℕ} {g : Given} → Gets R i k g → Gets R (suc i) k g
  still (root e f) = root e f
  still (child p j l h q f) = child p j (omega arith) h q f

  -- what is known behind a row that ends with its children and is not faulty
  step : (i l : ℕ) → Low R bad i l → closes R (col R i col_end) (suc i) (children R i) ≡ true → l ≢ i → Low R bad (suc i) (next i l)
  unfolding gives gives_by
  step i l L c d =
      record {
        clean = clean;
        fault = fault;
        ahead = above R by bad (col R i col_end) (suc i) 0 (children R i) l (suc i) c (omega arith) (omega (arith, L.ahead));
      }
    where
      by : ℕ → Given
      by = gives_by (col R i col_kind) (col R i col_count)

      less : next i l ≤ l
      less = least_le R by bad (suc i) 0 (children R i) l

      own : (j k : ℕ) (g : Given) → j < children R i → after R (suc i) j ≡ k → g ≡ gives R i j → k < next i l → bad k g ≡ false
      own j k g b q f h =
          let e : 0 + j ≡ j = omega arith in
          rw f (rw (e, q) at (below R by bad (suc i) 0 (children R i) l j b (rw q h)))

      clean : (k : ℕ) (g : Given) → Gets R (suc i) k g → k < next i l → bad k g ≡ false
      clean k g (root e f) h = L.clean k g (root e f) (omega (arith, less))
      clean k g (child p j a b q f) h =
          elim (ℕ_discrete p i) [
            | yes e ↦ own j k g (rw e at b) (rw e at q) (rw e at f) h
            | no e ↦ L.clean k g (child p j (omega arith) b q f) (omega (arith, less))
          ]

      fault : next i l < rows_in R → (g : Given) × Gets R (suc i) (next i l) g × (bad (next i l) g ≡ true)
      fault h =
          elim (dec_lt (next i l) l) [
            | yes t ↦
                let (m, x, y, z) = newest R by bad (suc i) 0 (children R i) l t in
                let e : 0 + m ≡ m = omega arith in
                (gives R i m, child i m (omega arith) x y refl, rw e at z)
            | no t ↦
                let e : next i l ≡ l = omega (arith, less) in
                let f = L.fault (omega arith) in
                rw e (f.0, still f.1, f.2)
          ]

-- ---- a row's tests, in the order of the definition and of the pass

not-not : (t : Bool) → t ≡ not (not t)
not-not true = refl
not-not false = refl

last-last : (a b c d : Bool) → (a && b && (c && d)) ≡ (a && b && c && d)
last-last true true c d = refl
last-last true false c d = refl
last-last false b c d = refl

-- a key is not empty, or need not be
not_hollow : (f : Bool) (z : ℕ) → (ltb 0 z || not f) ≡ not (f && eqb z 0)
not_hollow true zero = refl
not_hollow false zero = refl
not_hollow f (suc z) =
    let e : ltb 0 (suc z) ≡ true = lt-ltb 0 (suc z) (omega arith) in
    let d : eqb (suc z) 0 ≡ false = ne_eqb (suc z) 0 (λ q. omega arith) in
    rw (e, d) (filled f)
  where
    filled : (f : Bool) → true ≡ not (f && false)
    filled true = refl
    filled false = refl

module _ (R B : List ℕ) where
  -- by the least rows, in place of what row i is given
  formed-is : (i w : ℕ) → is_wrong R i (given R i) ≡ eqb w i
      → well_formed R B i ≡ (row_fits R B i && closes R (col R i col_end) (suc i) (children R i) && not (eqb w i))
  unfolding well_formed row_fits is_wrong
  formed-is i w h = rw (← h, ← not-not (eqb (col R i col_key_mark) (mark_of (given R i))))

  writable-is : (i e : ℕ) → is_empty R i (given R i) ≡ eqb e i → writable R B i ≡ (row_writable R B i && not (eqb e i))
  unfolding writable key_writable row_writable is_empty
  writable-is i e h =
      rw (← h, not_hollow (is_filled (given R i)) (col R i col_key_size))
      (last-last (number_writable R i (col R i col_kind)) (body_writable R B i (col R i col_kind)) (valid_text (key_text R B i)) _)

  -- a row that fits stands before the end of the root, and ends within the rows
  pub fits-ends : (i : ℕ) → row_fits R B i ≡ true → (i < col R 0 col_end) × (col R i col_end ≤ rows_in R)
  unfolding row_fits
  fits-ends i h =
      let (h₆, end) = both _ (leb (col R i col_end) (rows_in R)) h in
      let (h₅, value) = both _ (value_fits R i (col R i col_kind)) h₆ in
      let (h₄, columns) = both _ (columns_fit R B i (col R i col_kind)) h₅ in
      let (h₃, key) = both _ (mark_fits B (col R i col_key_mark) (col R i col_key_begin) (col R i col_key_size)) h₄ in
      let (h₂, high) = both _ (leb (col R i col_kind) kind_reference) h₃ in
      let (within, low) = both (ltb i (col R 0 col_end)) (leb kind_undefined (col R i col_kind)) h₂ in
      (ltb-true i (col R 0 col_end) within, leb-true (col R i col_end) (rows_in R) end)

  -- a row that does not fit is malformed
  unfit : (i : ℕ) → row_fits R B i ≡ false → well_formed R B i ≡ false
  unfolding well_formed row_fits
  unfit i h = rw h

  -- ---- all rows

  -- the answers of a row that fits, by its other tests
  answers : {more : Tested} (i : ℕ) (f : Least → Tested) (x : Least) (a c e u : Bool) → (a ≡ false → c ≡ true → e ≡ false → u ≡ true → f x ≡ more)
      → cond a (faulty 13 i) (on_walk (cond c (Some x) None) (λ x. cond e (faulty 14 i) (cond u (f x) (faulty 14 i))) (faulty 13 i))
      ≡ cond (c && not a) (cond (u && not e) more (faulty 14 i)) (faulty 13 i)
  answers i f x true true e u h = refl
  answers i f x true false e u h = refl
  answers i f x false false e u h = refl
  answers i f x false true true true h = refl
  answers i f x false true true false h = refl
  answers i f x false true false false h = refl
  answers i f x false true false true h = h refl refl refl refl

  shut-next : (i : ℕ) → Shut R i → closes R (col R i col_end) (suc i) (children R i) ≡ true → Shut R (suc i)
  shut-next i shut c q h =
      elim (ℕ_discrete q i) [
        | yes e ↦ rw e c
        | no e ↦ shut q (omega arith)
      ]

  pass-is : (n i : ℕ) (l : Least) → Low R (is_wrong R) i l.wrong → Low R (is_empty R) i l.empty → Shut R i → i + n ≡ rows_in R
      → pass R B i n l ≡ test_from R B i n
  unfolding pass test_from walk_of
  pass-is zero i l W E shut s = refl
  pass-is (suc n) i l W E shut s =
      on_bool (row_fits R B i)
      (λ f.
      let z = (fits-ends i f).0 in
      let h : i < rows_in R = omega arith in
      rw (
        formed-is i l.wrong (bad-is R (is_wrong R) i l.wrong W shut h z),
        writable-is i l.empty (bad-is R (is_empty R) i l.empty E shut h z),
        f,
        walk_is R (col R i col_kind) (col R i col_count) (col R i col_end) (suc i) 0 (children R i) l,
      )
      (answers i (λ x. pass R B (suc i) n x) (behind R (col R i col_kind) (col R i col_count) (suc i) 0 (children R i) l) (eqb l.wrong i)
      (closes R (col R i col_end) (suc i) (children R i)) (eqb l.empty i) (row_writable R B i)
      (λ a c b u. pass-is n (suc i) (behind R (col R i col_kind) (col R i col_count) (suc i) 0 (children R i) l)
      (step R (is_wrong R) i l.wrong W c (eqb-false l.wrong i a)) (step R (is_empty R) i l.empty E c (eqb-false l.empty i b)) (shut-next i shut c)
      (omega arith))))
      (λ f. rw (f, unfit i f) (same (eqb l.wrong i)))
    where
      same : (a : Bool) → cond a (faulty 13 i) (faulty 13 i) ≡ faulty 13 i
      same true = refl
      same false = refl

  start : (bad : ℕ → Given → Bool) → 0 < rows_in R → Low R bad 0 (lower (bad 0 keyless) 0 (rows_in R))
  unfolding lower
  start bad h = on_bool (bad 0 keyless)
      (λ t. let e : min (rows_in R) 0 ≡ 0 = omega arith in rw (t, e)
      (record { clean = λ k g x l. absurd (omega arith); fault = λ l. (keyless, root refl refl, t); ahead = omega arith }))
      (λ t. rw t (record { clean = λ k g x l. clean t x; fault = λ l. absurd (omega arith); ahead = omega arith }))
    where
      clean : {k : ℕ} {g : Given} → bad 0 keyless ≡ false → Gets R 0 k g → bad k g ≡ false
      clean t (root e f) = rw (e, f) t
      clean t (child p j l h q f) = absurd (omega arith)

  pub passed_is : passed R B ≡ tested R B
  unfolding passed tested
  passed_is = on_bool (eqb (rows_in R) 0) (λ t. rw t)
      (λ t. let h : 0 < rows_in R = (let d = eqb-false (rows_in R) 0 t in omega arith) in
      rw t (pass-is (rows_in R) 0 (least (lower (is_wrong R 0 keyless) 0 (rows_in R)) (lower (is_empty R 0 keyless) 0 (rows_in R)))
      (start (is_wrong R) h) (start (is_empty R) h) (λ q l. absurd (omega arith)) (omega arith)))
