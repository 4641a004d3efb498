-- Rows that are all sound, below a root that has no key and ends with them, pass the row test.
use mathlib.Core.Path.{◌≡◌, refl, sym, ap, ◌∙◌}
use mathlib.Core.Bool.{Bool, true, false, cond, not, ◌||◌}
use mathlib.Core.List.{List, ◌∷◌}
use Prim.Native.Nat.{ℕ, zero, suc, ◌+◌, ◌*◌, ◌-◌, ◌^◌, ◌<◌, ◌≤◌}
use native.Mathlib.Omega.{arith}
use native.Mathlib.Decide.{dec_lt, ℕ_discrete}
use borrow.Author.Tests.{lt-ltb, le-ltb, le-leb, eq-eqb, ne_eqb, ltb-true, leb-true, eqb-true}
use lib.Dec.{T, leb, ltb, eqb}
use lib.ListN.{length, get_or}
use Rattle.rows.specs.declared.Key.{Key}
use Rattle.rows.specs.Memory.{span, col_kind, col_key_mark, col_number, col_end, rows_in, col}
use Rattle.utf8.specs.Grammar.{valid_text, follow}
use Rattle.format.specs.Unfold.{part, after}
use Rattle.format.specs.RowTest.{span_fits, mark_fits, columns_fit, signed_fits, value_fits, children, closes, Given, gives, parent_in, given}
use Rattle.format.specs.RowTest.{mark_of, is_filled, well_formed, number_writable, body_writable, key_writable, writable, fine, test_from}
use Rattle.format.specs.RowTest.{tested}
use Rattle.format.proofs.Tests.{on_bool, both, or_true}
use Rattle.format.proofs.Tested.{parent, child-given}
use Rattle.meaning.proofs.Ground.{col-lent, Land, land, at, Done}
use Rattle.meaning.proofs.Lands.{Within, classless, class, Meets, bare, named, long, Marked, Run, ends, goes, undefined}
use Rattle.meaning.proofs.Lands.{null, boolean, integer, double, date, string, xml_document, xml, ints, uints, doubles, Form, number, text}
use Rattle.meaning.proofs.Lands.{bytes, raw, array, object, vector, dictionary, reference, Sound, run_up}
use Rattle.rows.specs.Memory.{row_width}
use Rattle.rows.specs.Memory.{col_body_size, col_count, col_count2}

-- ---- a row by itself

-- rows of two tables with the same columns fit alike
module _ (R C B : List ℕ) (i j k : ℕ) (same : (n : ℕ) → n < row_width → col R i n ≡ col C j n) where
  same-columns : columns_fit R B i k ≡ columns_fit C B j k
  unfolding columns_fit
  same-columns = rw (
    same 4 (omega arith),
    same 5 (omega arith),
    same 6 (omega arith),
    same 7 (omega arith),
    same 8 (omega arith),
    same 9 (omega arith),
    same 10 (omega arith),
  )

  same_body : body_writable R B i k ≡ body_writable C B j k
  unfolding body_writable
  same_body = rw (same 4 (omega arith), same 5 (omega arith), same 6 (omega arith))

module _ (L : Land) (room : L.full ≤ length L.store) where
  span-fits : (b z : ℕ) → Within L (span b z) → span_fits L.store b z ≡ true
  unfolding span_fits
  span-fits b z h = on_bool (eqb z 0) (λ e. rw e (eq-eqb b 0 (h.empty (eqb-true z 0 e))))
      (λ e. rw e (le-leb (b + z) (length L.store) (let i = h.inside in omega arith)))

  none-fits : span_fits L.store 0 0 ≡ true
  unfolding span_fits
  none-fits = refl

  mark-fits : {g : Given} {k : Key} → Meets L g k → mark_fits L.store k.mark k.begin k.size ≡ true
  unfolding mark_fits
  mark-fits bare = refl
  mark-fits (named v) = span-fits _ _ v.within
  mark-fits (long v l) = span-fits _ _ v.within

  key-valid : {g : Given} {k : Key} → Meets L g k → valid_text (part L.store k.begin k.size) ≡ true
  unfolding part valid_text follow
  key-valid bare = refl
  key-valid (named v) = v.text
  key-valid (long v l) = v.text

  -- what its kind and its columns have to be
  pub record Own (k : ℕ) (cs : List ℕ) : Type 0 where
    pub low : leb 1 k ≡ true
    pub high : leb k 18 ≡ true
    pub columns : columns_fit cs L.store 0 k ≡ true
    pub body : body_writable cs L.store 0 k ≡ true

  own : {i k : ℕ} {cs : List ℕ} (m b z : ℕ) → Form L i k cs → Own k (k ∷ m ∷ b ∷ z ∷ cs)
  unfolding columns_fit mark_fits body_writable col
  own m b z (number undefined e) = record { low = refl; high = refl; columns = rw none-fits; body = refl }
  own m b z (number null e) = record { low = refl; high = refl; columns = rw none-fits; body = refl }
  own m b z (number (boolean h) e) = record { low = refl; high = refl; columns = rw none-fits; body = refl }
  own m b z (number (integer h) e) = record { low = refl; high = refl; columns = rw none-fits; body = refl }
  own m b z (number double e) = record { low = refl; high = refl; columns = rw none-fits; body = refl }
  own m b z (number (date f) e) = record { low = refl; high = refl; columns = rw none-fits; body = refl }
  own m b z (text string v e) = record { low = refl; high = refl; columns = rw (span-fits _ _ v.within); body = v.text }
  own m b z (text xml_document v e) = record { low = refl; high = refl; columns = rw (span-fits _ _ v.within); body = v.text }
  own m b z (text xml v e) = record { low = refl; high = refl; columns = rw (span-fits _ _ v.within); body = v.text }
  own m b z (bytes v e) = record { low = refl; high = refl; columns = rw (span-fits _ _ v); body = refl }
  own m b z (raw ints v w f e) = record { low = refl; high = refl; columns = rw (span-fits _ _ v, le-leb _ 1 f); body = refl }
  own m b z (raw uints v w f e) = record { low = refl; high = refl; columns = rw (span-fits _ _ v, le-leb _ 1 f); body = refl }
  own m b z (raw doubles v w f e) = record { low = refl; high = refl; columns = rw (span-fits _ _ v, le-leb _ 1 f); body = refl }
  own m b z (array p q) = record { low = refl; high = refl; columns = rw none-fits; body = refl }
  own m b z (object classless p q) = record { low = refl; high = refl; columns = refl; body = refl }
  own m b z (object (class v l) p q) = record { low = refl; high = refl; columns = rw (span-fits _ _ v.within); body = rw (v.text, lt-ltb 0 _ l) }
  own m b z (vector classless f p) = record { low = refl; high = refl; columns = rw (le-leb _ 1 f); body = refl }
  own m b z (vector (class v l) f p) = record { low = refl; high = refl; columns = rw (span-fits _ _ v.within, le-leb _ 1 f); body = rw (v.text, l) }
  own m b z (dictionary f p) = record { low = refl; high = refl; columns = rw (none-fits, le-leb _ 1 f); body = refl }
  own m b z (reference l d h o e) = record { low = refl; high = refl; columns = rw none-fits; body = refl }

form-length : {L : Land} {i k : ℕ} {cs : List ℕ} → Form L i k cs → length cs ≡ 8
form-length (number a e) = refl
form-length (text a v e) = refl
form-length (bytes v e) = refl
form-length (raw a v z f e) = refl
form-length (array a b) = refl
form-length (object c a b) = refl
form-length (vector c f a) = refl
form-length (dictionary f a) = refl
form-length (reference l d h o e) = refl

-- a row alone in a table
alone : (cs : List ℕ) (j : ℕ) → length cs ≡ row_width → col cs 0 j ≡ get_or cs j 0
unfolding col
alone cs j h = let e : 0 * row_width + j ≡ j = omega arith in rw (h, e)

-- an integer of 29 bits has 32
signed-more : (v : ℕ) → signed_fits 28 v ≡ true → signed_fits 31 v ≡ true
unfolding signed_fits
signed-more v h = on_bool (ltb v (2 ^ 28))
    (λ e. let l = ltb-true v (2 ^ 28) e in rw (lt-ltb v (2 ^ 31) (omega arith)))
    (λ e. let (p, q) = both (leb (2 ^ 64 - 2 ^ 28) v) (ltb v (2 ^ 64)) (rw e at h) in
    let l = leb-true (2 ^ 64 - 2 ^ 28) v p in
    rw (le-leb (2 ^ 64 - 2 ^ 31) v (omega arith), q) (or_true (ltb v (2 ^ 31))))

-- ---- a row and its children, in a table of which all rows are sound

module _ (R B : List ℕ) (u : ℕ) where
  abbrev L : Land
  L = land R (rows_in R) B u

  done_in : (i : ℕ) → Done L i → i < rows_in R
  done_in i d = let a = d.0 in let b = d.1 in omega arith

  -- all the children up to row e, of which n have been walked
  run-closes : {g : Given} {k e n : ℕ} (y stop : ℕ) → Run L g k e n → e ≤ stop → closes R stop e y ≡ true → closes R stop k (n + y) ≡ true
  unfolding closes
  run-closes y stop ends l h = let e : 0 + y ≡ y = omega arith in rw e h
  run-closes y stop (goes {k = k} {n = n} d m r) l h =
      let e : suc n + y ≡ suc (n + y) = omega arith in
      let c = col-lent R k col_end (done_in k d) in
      let f = run_up r in
      let a = d.0 in
      rw (e, c, lt-ltb k (at L k col_end) a, le-leb (at L k col_end) stop (omega arith)) (run-closes y stop r l h)

  run-all : {g : Given} {k e n : ℕ} → Run L g k e n → closes R e k n ≡ true
  unfolding closes
  run-all {g} {k} {e} {n} r = let z : n + 0 ≡ n = omega arith in rw z at (run-closes 0 e r (omega arith) (eq-eqb e e refl))

  after_more : (k n : ℕ) → k < rows_in R → after R k (suc n) ≡ after R (at L k col_end) n
  unfolding after
  after_more k n h = rw (col-lent R k col_end h)

  -- the row behind them
  run-after : {g : Given} {k e n : ℕ} → Run L g k e n → (j : ℕ) → after R k (n + j) ≡ after R e j
  unfolding after
  run-after ends j = let e : 0 + j ≡ j = omega arith in rw e
  run-after (goes {k = k} {n = n} d m r) j = let e : suc n + j ≡ suc (n + j) = omega arith in rw e (after_more k (n + j) (done_in k d) ∙ run-after r j)

  run-marked : {g : Given} {k e n : ℕ} → Run L g k e n → (j : ℕ) → j < n → Marked L g (after R k j)
  unfolding after
  run-marked ends j h = absurd (omega arith)
  run-marked (goes d m r) zero h = m
  run-marked (goes {k = k} d m r) (suc j) h = rw (col-lent R k col_end (done_in k d)) (run-marked r j (omega arith))

  -- two runs
  two-marked : {a b : Given} {k mid e x y : ℕ} → Run L a k mid x → Run L b mid e y → (j : ℕ) → j < x + y → Marked L (cond (ltb j x) a b) (after R k j)
  two-marked {k = k} {mid = mid} {x = x} p q j h = elim (dec_lt j x) [
    | yes l ↦ rw (lt-ltb j x l) (run-marked p j l)
    | no l ↦
        (let e : j ≡ x + (j - x) = omega arith in
        let f : after R k j ≡ after R mid (j - x) = ap (λ i. after R k i) e ∙ run-after p (j - x) in
        rw (le-ltb j x (omega arith), f) (run-marked q (j - x) (omega arith)))
  ]

  -- ---- a sound row

  module _ (i m b z : ℕ) where
    value-fits : {k : ℕ} {cs : List ℕ} → Form L i k cs → ((j : ℕ) → j < row_width → col R i j ≡ get_or (k ∷ m ∷ b ∷ z ∷ cs) j 0) → value_fits R i k ≡ true
    unfolding value_fits
    value-fits (number undefined e) is = refl
    value-fits (number null e) is = refl
    value-fits (number (boolean l) e) is = rw (is col_number (omega arith)) (le-leb _ 1 l)
    value-fits (number (integer l) e) is = rw (is col_number (omega arith)) (signed-more _ l)
    value-fits (number double e) is = refl
    value-fits (number (date f) e) is = refl
    value-fits (text string v e) is = refl
    value-fits (text xml_document v e) is = refl
    value-fits (text xml v e) is = refl
    value-fits (bytes v e) is = refl
    value-fits (raw ints v w f e) is = rw (is col_body_size (omega arith), is col_count (omega arith)) (eq-eqb _ _ w)
    value-fits (raw uints v w f e) is = rw (is col_body_size (omega arith), is col_count (omega arith)) (eq-eqb _ _ w)
    value-fits (raw doubles v w f e) is = rw (is col_body_size (omega arith), is col_count (omega arith)) (eq-eqb _ _ w)
    value-fits (array p q) is = refl
    value-fits (object c p q) is = refl
    value-fits (vector c f p) is = refl
    value-fits (dictionary f p) is = refl
    value-fits (reference {t = t} l d a o e) is =
        rw (is col_number (omega arith), col-lent R t col_end (done_in t d), col-lent R t col_kind (done_in t d), lt-ltb t i l, le-leb (at L t col_end) i a, o)

    number_fits : {k : ℕ} {cs : List ℕ} → Form L i k cs → ((j : ℕ) → j < row_width → col R i j ≡ get_or (k ∷ m ∷ b ∷ z ∷ cs) j 0) → number_writable R i k ≡ true
    unfolding number_writable
    number_fits (number undefined e) is = refl
    number_fits (number null e) is = refl
    number_fits (number (boolean l) e) is = refl
    number_fits (number (integer l) e) is = rw (is col_number (omega arith)) l
    number_fits (number double e) is = refl
    number_fits (number (date f) e) is = rw (is col_number (omega arith)) (ap not f)
    number_fits (text string v e) is = refl
    number_fits (text xml_document v e) is = refl
    number_fits (text xml v e) is = refl
    number_fits (bytes v e) is = refl
    number_fits (raw ints v w f e) is = refl
    number_fits (raw uints v w f e) is = refl
    number_fits (raw doubles v w f e) is = refl
    number_fits (array p q) is = refl
    number_fits (object c p q) is = refl
    number_fits (vector c f p) is = refl
    number_fits (dictionary f p) is = refl
    number_fits (reference l d a o e) is = refl

  -- the children of a row, as the test walks them
  pub record Kids (i : ℕ) : Type 0 where
    pub closing : closes R (col R i col_end) (suc i) (children R i) ≡ true
    pub marked : (j : ℕ) → j < children R i → Marked L (gives R i j) (after R (suc i) j)

  module _ (i m b z : ℕ) where
    no_kids : col R i col_end ≡ suc i → children R i ≡ 0 → Kids i
    unfolding closes
    no_kids e c = record { closing = rw (e, c) (eq-eqb (suc i) (suc i) refl); marked = λ j l. absurd (omega arith) }

    kids_in : {k : ℕ} {cs : List ℕ} → Form L i k cs → ((j : ℕ) → j < row_width → col R i j ≡ get_or (k ∷ m ∷ b ∷ z ∷ cs) j 0) → Kids i
    unfolding children gives
    kids_in (number undefined e) is = no_kids (is col_end (omega arith) ∙ e) (rw (is col_kind (omega arith)))
    kids_in (number null e) is = no_kids (is col_end (omega arith) ∙ e) (rw (is col_kind (omega arith)))
    kids_in (number (boolean l) e) is = no_kids (is col_end (omega arith) ∙ e) (rw (is col_kind (omega arith)))
    kids_in (number (integer l) e) is = no_kids (is col_end (omega arith) ∙ e) (rw (is col_kind (omega arith)))
    kids_in (number double e) is = no_kids (is col_end (omega arith) ∙ e) (rw (is col_kind (omega arith)))
    kids_in (number (date f) e) is = no_kids (is col_end (omega arith) ∙ e) (rw (is col_kind (omega arith)))
    kids_in (text string v e) is = no_kids (is col_end (omega arith) ∙ e) (rw (is col_kind (omega arith)))
    kids_in (text xml_document v e) is = no_kids (is col_end (omega arith) ∙ e) (rw (is col_kind (omega arith)))
    kids_in (text xml v e) is = no_kids (is col_end (omega arith) ∙ e) (rw (is col_kind (omega arith)))
    kids_in (bytes v e) is = no_kids (is col_end (omega arith) ∙ e) (rw (is col_kind (omega arith)))
    kids_in (raw ints v w f e) is = no_kids (is col_end (omega arith) ∙ e) (rw (is col_kind (omega arith)))
    kids_in (raw uints v w f e) is = no_kids (is col_end (omega arith) ∙ e) (rw (is col_kind (omega arith)))
    kids_in (raw doubles v w f e) is = no_kids (is col_end (omega arith) ∙ e) (rw (is col_kind (omega arith)))
    kids_in (reference l d a o e) is = no_kids (is col_end (omega arith) ∙ e) (rw (is col_kind (omega arith)))
    kids_in (array p q) is =
        record {
          closing = rw (is col_kind (omega arith), is col_count (omega arith), is col_count2 (omega arith), is col_end (omega arith)) (run-closes _ _ p (run_up q) (run-all q));
          marked = rw (is col_kind (omega arith), is col_count (omega arith), is col_count2 (omega arith)) (two-marked p q);
        }
    kids_in (object c p q) is =
        record {
          closing = rw (is col_kind (omega arith), is col_count (omega arith), is col_count2 (omega arith), is col_end (omega arith)) (run-closes _ _ p (run_up q) (run-all q));
          marked = rw (is col_kind (omega arith), is col_count (omega arith), is col_count2 (omega arith)) (two-marked p q);
        }
    kids_in (vector c f p) is =
        record {
          closing = rw (is col_kind (omega arith), is col_count (omega arith), is col_end (omega arith)) (run-all p);
          marked = rw (is col_kind (omega arith), is col_count (omega arith)) (run-marked p);
        }
    kids_in (dictionary f p) is =
        record {
          closing = rw (is col_kind (omega arith), is col_count (omega arith), is col_end (omega arith)) (run-all p);
          marked = rw (is col_kind (omega arith), is col_count (omega arith)) (run-marked p);
        }

-- ---- the test

long-enough : (b : Bool) (n : ℕ) → (T b → 0 < n) → ltb 0 n || not b ≡ true
long-enough true n h = rw (lt-ltb 0 n (h tt))
long-enough false zero h = refl
long-enough false (suc n) h = rw (lt-ltb 0 (suc n) (omega arith))

-- a table: all its rows are sound in a store of which u bytes are used, and its root, which has no key, ends with them
pub record Table (R B : List ℕ) (u : ℕ) : Type 0 where
  pub room : u ≤ length B
  pub all : (i : ℕ) → i < rows_in R → Sound (land R (rows_in R) B u) i
  pub some : 0 < rows_in R
  pub root : at (land R (rows_in R) B u) 0 col_key_mark ≡ 0
  pub last : at (land R (rows_in R) B u) 0 col_end ≡ rows_in R

module _ {R B : List ℕ} {u : ℕ} (table : Table R B u) where
  abbrev M : Land
  M = land R (rows_in R) B u

  abbrev cols_of : {i : ℕ} → Sound M i → List ℕ
  cols_of s = s.kind ∷ s.key.mark ∷ s.key.begin ∷ s.key.size ∷ s.body

  is_row : (i : ℕ) → i < rows_in R → (s : Sound M i) → (j : ℕ) → j < row_width → col R i j ≡ get_or (cols_of s) j 0
  is_row i h s j l = col-lent R i j h ∙ s.row j l

  kids : (i : ℕ) → i < rows_in R → Kids R B u i
  kids i h = let s = table.all i h in kids_in R B u i _ _ _ s.form (is_row i h s)

  ended : col R 0 col_end ≡ rows_in R
  ended = col-lent R 0 col_end table.some ∙ table.last

  -- every row has the key that it is given: the root has none
  root-marked : Marked M (given R 0) 0
  unfolding given parent_in
  root-marked = record { mark = table.root; size = λ t. absurd t }

  given-marked : (i : ℕ) → i < rows_in R → Marked M (given R i) i
  given-marked i h = elim (ℕ_discrete i 0) [
    | yes e ↦ rw e root-marked
    | no e ↦
        (let r = parent R i 0 i (omega arith) (λ q l. (kids q (omega arith)).closing) (omega arith) (rw ended h) in
        by r.row r.number r.before r.few r.is)
  ]
    where
      by : (p j : ℕ) → p < i → j < children R p → after R (suc p) j ≡ i → Marked M (given R i) i
      by p j a b c =
          rw (child-given R i (λ q l. (kids q (omega arith)).closing) p j a b c)
          (rw c at ((kids p (omega arith)).marked j b))

  module _ (i : ℕ) (h : i < rows_in R) where
    abbrev S : Sound M i
    S = table.all i h

    alike : (j : ℕ) → j < row_width → col R i j ≡ col (cols_of S) 0 j
    alike j l = is_row i h S j l ∙ sym (alone (cols_of S) j (ap (λ n. suc (suc (suc (suc n)))) (form-length S.form)))

    kind-is : col R i col_kind ≡ S.kind
    kind-is = is_row i h S 0 (omega arith)

    of-kind : Own M table.room S.kind (cols_of S)
    of-kind = own M table.room S.key.mark S.key.begin S.key.size S.form

    pub well-formed : well_formed R B i ≡ true
    unfolding well_formed
    well-formed =
        let o = of-kind in
        let g = given-marked i h in
        rw (
          ended,
          lt-ltb i (rows_in R) h,
          kind-is,
          o.low,
          o.high,
          is_row i h S 1 (omega arith),
          is_row i h S 2 (omega arith),
          is_row i h S 3 (omega arith),
          mark-fits M table.room S.meets,
          same-columns R (cols_of S) B i 0 S.kind alike,
          o.columns,
          value-fits R B u i _ _ _ S.form (is_row i h S),
          le-leb (col R i col_end) (rows_in R) (rw (col-lent R i col_end h) S.top),
          (kids i h).closing,
        )
        (eq-eqb S.key.mark (mark_of (given R i)) (sym (S.row 1 (omega arith)) ∙ g.mark))

    key-writable : key_writable R B i ≡ true
    unfolding key_writable
    key-writable =
        let g = given-marked i h in
        rw (is_row i h S 2 (omega arith), is_row i h S 3 (omega arith), key-valid M table.room S.meets)
        (long-enough (is_filled (given R i)) S.key.size (λ t. rw (S.row 3 (omega arith)) at (g.size t)))

    body-writable : body_writable R B i S.kind ≡ true
    body-writable = same_body R (cols_of S) B i 0 S.kind alike ∙ of-kind.body

    number-writable : number_writable R i S.kind ≡ true
    number-writable = number_fits R B u i _ _ _ S.form (is_row i h S)

    pub can_be_written : writable R B i ≡ true
    unfolding writable
    can_be_written = rw (kind-is, number-writable, body-writable, key-writable)

  test-from : (n i : ℕ) → i + n ≡ rows_in R → test_from R B i n ≡ fine
  unfolding test_from
  test-from zero i e = refl
  test-from (suc n) i e = let h : i < rows_in R = omega arith in rw (well-formed i h, can_be_written i h) (test-from n (suc i) (omega arith))

  pub passing : tested R B ≡ fine
  unfolding tested
  passing = let s = table.some in rw (ne_eqb (rows_in R) 0 (λ e. omega arith)) (test-from (rows_in R) 0 (omega arith))
