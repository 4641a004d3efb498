-- The tree that tested rows unfold to can be written, however many references they have.
use mathlib.Core.Path.{◌≡◌, refl, ap, ◌∙◌}
use mathlib.Core.Bool.{Bool, true, false, cond, not, ◌&&◌, ◌||◌}
use mathlib.Core.List.{List, [], ◌∷◌}
use mathlib.Core.Option.{none, some}
use Prim.Native.Nat.{ℕ, zero, suc, ◌+◌, ◌*◌, ◌-◌, ◌^◌, ◌<◌, ◌≤◌}
use native.Mathlib.Omega.{arith}
use native.Mathlib.Nat.{mul_comm}
use native.Mathlib.Numerals.{add-one}
use borrow.Author.Tests.{ltb-true, leb-true, eqb-true, lt-ltb, le-ltb, not-true}
use lib.Dec.{leb, ltb, eqb, lit<}
use lib.ListN.{length, get_or}
use lib.Signed.{mag}
use Rattle.rows.specs.Memory.{row_width, col_kind, col_key_begin, col_key_size, col_body_begin, col_body_size, rows_in, col}
use Rattle.rows.specs.Memory.{col_class_mark, col_number, col_count, col_count2, col_end, fault_of, memory}
use Rattle.rows.specs.Kinds.{kind_integer, kind_date, kind_array, kind_object, kind_object_vector, kind_dictionary}
use Rattle.wire.specs.Sign.{of_column}
use Rattle.wire.specs.Date.{refused_date}
use Rattle.wire.proofs.Sign.{signed_low, signed_high}
use Rattle.utf8.specs.Grammar.{valid_text}
use Rattle.format.specs.Standard.{Tree, array, object, object_vector, dictionary, count, count_pairs, count_entries, is_star}
use Rattle.format.specs.Unfold.{part, body_of, key_text, class_text, flag_set, home, after, trees_at, pairs_at, entries_at, node, tree_at}
use Rattle.format.specs.Unfold.{unfolded}
use Rattle.format.specs.RowTest.{has_class, signed_fits, value_fits, children, full_key, gives, given, number_writable, body_writable, tested, fine}
use Rattle.format.proofs.Tests.{both, clash}
use Rattle.format.specs.Writable.{IsText, IsKey, IsType, IfGiven, IsRaw, Writable, WritableTrees, WritablePairs, WritableMembers}
use Rattle.format.specs.Writable.{WritableEntries}
use Rattle.format.proofs.Tested.{Formed, Row, tested-rows, part-short, key-length, body-length, class-mark}
use Rattle.format.proofs.Tested.{Walk, done, next, walk_start, walk_after, walk-long, home-row, kind-is}
use Rattle.format.proofs.Loans.{lent}
use Rattle.rows.specs.Kinds.{kind_undefined, kind_null, kind_boolean, kind_double, kind_string, kind_xml_document, kind_xml, kind_byte_array, kind_int_vector}
use Rattle.rows.specs.Kinds.{kind_uint_vector, kind_double_vector, kind_reference}
use Rattle.rows.specs.Memory.{rows_most, store_most}

-- ---- as many as the counts say

pub trees-count : (f : ℕ → Tree) (R : List ℕ) (k n : ℕ) → count (trees_at f R k n) ≡ n
unfolding count trees_at
trees-count f R k zero = refl
trees-count f R k (suc n) = ap suc (trees-count f R (col R k col_end) n)

pub pairs-count : (f : ℕ → Tree) (R B : List ℕ) (k n : ℕ) → count_pairs (pairs_at f R B k n) ≡ n
unfolding count_pairs pairs_at
pairs-count f R B k zero = refl
pairs-count f R B k (suc n) = ap suc (pairs-count f R B (col R k col_end) n)

pub entries-count : (f : ℕ → Tree) (R : List ℕ) (k n : ℕ) → count_entries (entries_at f R k n) ≡ n
unfolding count_entries entries_at
entries-count f R k zero = refl
entries-count f R k (suc n) = ap suc (entries-count f R (col R (col R k col_end) col_end) n)

-- a column that a U29 can say, as the number that it stands for
pub column-small : (n : ℕ) → signed_fits 28 n ≡ true → mag (of_column n) < 2 ^ 28
unfolding signed_fits of_column
column-small n e = by (ltb n (2 ^ 28)) refl e
  where
    by : (t : Bool) → ltb n (2 ^ 28) ≡ t → (t || (leb (2 ^ 64 - 2 ^ 28) n && ltb n (2 ^ 64))) ≡ true → mag (of_column n) < 2 ^ 28
    by true l e =
        let h : n < 2 ^ 28 = ltb-true n (2 ^ 28) l in
        rw (signed_low 63 n (omega arith)) h
    by false l e =
        let h = both (leb (2 ^ 64 - 2 ^ 28) n) (ltb n (2 ^ 64)) e in
        let least : 2 ^ 64 - 2 ^ 28 ≤ n = leb-true (2 ^ 64 - 2 ^ 28) n h.0 in
        rw (signed_high 63 n (omega arith) (ltb-true n (2 ^ 64) h.1)) (omega arith)

module _ (R B : List ℕ) (few : rows_in R ≤ rows_most) (small : length B ≤ store_most) (rows : (i : ℕ) → i < rows_in R → Row R B i)
    (words : (i : ℕ) → get_or R i 0 < 2 ^ 64) where
  -- what 13 says of each
  formed : (i : ℕ) → i < rows_in R → Formed R B i
  formed i h = (rows i h).formed

  -- a column has 64 bits
  word : (i c : ℕ) → col R i c < 2 ^ 64
  unfolding col
  word i c = by (ltb i (rows_in R))
    where
      by : (t : Bool) → cond t (get_or R (i * row_width + c) 0) 0 < 2 ^ 64
      by true = words (i * row_width + c)
      by false = lit< tt

  -- ---- keys

  short : (begin size : ℕ) → length (part B begin size) < 2 ^ 28
  short begin size = omega (arith, part-short B begin size)

  key-text : (i : ℕ) → i < rows_in R → IsText (key_text R B i)
  key-text i h = record { valid = (rows i h).name; short = short (col R i col_key_begin) (col R i col_key_size) }

  key-filled : (i : ℕ) → i < rows_in R → given R i ≡ full_key → IsKey (key_text R B i)
  key-filled i h e =
      record { text = key-text i h; filled = by (ltb 0 (col R i col_key_size)) refl (rw e at (rows i h).filled) }
    where
      by : (t : Bool) → ltb 0 (col R i col_key_size) ≡ t → (t || false) ≡ true → 0 < length (key_text R B i)
      by true l z = omega (arith, key-length R B i (rows i h), ltb-true 0 (col R i col_key_size) l)
      by false l z = clash cc

  -- ---- children

  module _ (f : ℕ → Tree) (good : (i : ℕ) → i < rows_in R → Writable (f i)) (p stop : ℕ) where
    trees-fit : (n : ℕ) {c k j : ℕ} → n ≤ c → Walk R p stop k j c → WritableTrees (trees_at f R k n)
    unfolding trees_at
    trees-fit zero l w = tt
    trees-fit (suc n) l done = absurd (omega arith)
    trees-fit (suc n) l (next {k = k} x w) = (good k x.row, trees-fit n (omega arith) w)

    pairs-fit : (n : ℕ) {c k j : ℕ} → n ≤ c → Walk R p stop k j c → ((i : ℕ) → j ≤ i → i < j + n → gives R p i ≡ full_key)
        → WritablePairs (pairs_at f R B k n)
    unfolding pairs_at
    pairs-fit zero l w a = tt
    pairs-fit (suc n) l done a = absurd (omega arith)
    pairs-fit (suc n) l (next {k = k} {j = j} x w) a = (
      key-filled k x.row (x.gift ∙ a j (omega arith) (omega arith)),
      good k x.row,
      pairs-fit n (omega arith) w (λ i g q. a i (omega arith) (omega arith)),
    )

    members-fit : (n : ℕ) {c k j : ℕ} → n ≤ c → Walk R p stop k j c → WritableMembers (pairs_at f R B k n)
    unfolding pairs_at
    members-fit zero l w = tt
    members-fit (suc n) l done = absurd (omega arith)
    members-fit (suc n) l (next {k = k} x w) = (key-text k x.row, good k x.row, members-fit n (omega arith) w)

    entries_fit : (n : ℕ) {c k j : ℕ} → 2 * n ≤ c → Walk R p stop k j c → WritableEntries (entries_at f R k n)
    unfolding entries_at
    entries_fit zero l w = tt
    entries_fit (suc n) l done = absurd (omega arith)
    entries_fit (suc n) l (next x done) = absurd (omega arith)
    entries_fit (suc n) l (next {k = k} x (next y w)) = (good k x.row, good (col R k col_end) y.row, entries_fit n (omega arith) w)

  -- ---- one row

  module _ (f : ℕ → Tree) (good : (i : ℕ) → i < rows_in R → Writable (f i)) (i : ℕ) (h : i < rows_in R) where
    body-short : length (body_of R B i) ≤ store_most
    body-short = omega (arith, part-short B (col R i col_body_begin) (col R i col_body_size))

    integer-fits : col R i col_kind ≡ kind_integer → mag (of_column (col R i col_number)) < 2 ^ 28
    unfolding number_writable
    integer-fits e = column-small (col R i col_number) (rw e at (rows i h).number)

    date-fits : col R i col_kind ≡ kind_date → (col R i col_number < 2 ^ 64) × (refused_date (col R i col_number) ≡ false)
    unfolding number_writable
    date-fits e = (word i col_number, not-true (refused_date (col R i col_number)) (rw e at (rows i h).number))

    text-fits : valid_text (body_of R B i) ≡ true → IsText (body_of R B i)
    text-fits e = record { valid = e; short = short (col R i col_body_begin) (col R i col_body_size) }

    -- w bytes to an entry
    raw-fits : (w : ℕ) → col R i col_count ≤ w * col R i col_count → eqb (col R i col_body_size) (w * col R i col_count) ≡ true → IsRaw w (body_of R B i)
    raw-fits w l e =
        let s : length (body_of R B i) ≡ w * col R i col_count = body-length R B i (rows i h) ∙ eqb-true (col R i col_body_size) (w * col R i col_count) e in
        record { entries = col R i col_count; size = s ∙ mul_comm w (col R i col_count); short = omega (arith, body-short) }

    -- a class is given, or not
    class-fits : (P : List ℕ → Type 0) → has_class (col R i col_kind) ≡ true → (eqb (col R i col_class_mark) 1 ≡ true → P (body_of R B i))
        → IfGiven P (class_text R B i)
    class-fits P c g = by (eqb (col R i col_class_mark) 0) refl
      where
        by : (t : Bool) → eqb (col R i col_class_mark) 0 ≡ t → IfGiven P (cond t none (some (body_of R B i)))
        by true e = tt
        by false e = g (class-mark R B i (rows i h) c e)

    object-class : col R i col_kind ≡ kind_object → eqb (col R i col_class_mark) 1 ≡ true → IsKey (body_of R B i)
    unfolding body_writable
    object-class e m =
        let (t, l) = both (valid_text (body_of R B i)) (ltb 0 (col R i col_body_size)) (rw (e, m) at (rows i h).body) in
        record { text = text-fits t; filled = omega (arith, body-length R B i (rows i h), ltb-true 0 (col R i col_body_size) l) }

    star : (l : List ℕ) → is_star l ≡ false → l ≡ 0x2A ∷ [] → ⊥
    star l e q = let z : is_star (0x2A ∷ []) ≡ false = rw q at e in clash cc

    vector-class : col R i col_kind ≡ kind_object_vector → eqb (col R i col_class_mark) 1 ≡ true → IsType (body_of R B i)
    unfolding body_writable
    vector-class e m =
        let (t, u) = both (valid_text (body_of R B i)) (not (is_star (body_of R B i))) (rw (e, m) at (rows i h).body) in
        record { text = text-fits t; unstarred = star (body_of R B i) (not-true (is_star (body_of R B i)) u) }

    -- its children, as many as c says
    walk : (c : ℕ) → children R i ≡ c → Walk R i (col R i col_end) (suc i) 0 c
    walk c e = rw e at (walk_start R B formed i h)

    counted : (c : ℕ) → children R i ≡ c → c < rows_most
    counted c e = omega (arith, walk-long R (col R i col_end) (suc i) (children R i) (rows i h).formed.closed, (rows i h).formed.end)

    array-fits : col R i col_kind ≡ kind_array
        → Writable (array (pairs_at f R B (i + 1) (col R i col_count)) (trees_at f R (after R (i + 1) (col R i col_count)) (col R i col_count2)))
    unfolding children gives
    array-fits e =
        let n : ℕ = col R i col_count in
        let m : ℕ = col R i col_count2 in
        let c : children R i ≡ n + m = rw e in
        let w = walk (n + m) c in
        let stop : ℕ = col R i col_end in
        rw (add-one i, trees-count f R (after R (suc i) n) m) (
          pairs-fit f good i stop n (omega arith) w (λ j a l. rw (e, lt-ltb j n (omega arith))),
          trees-fit f good i stop m (omega arith) (walk_after R i stop n (omega arith) w),
          omega (arith, counted (n + m) c),
        )

    object-fits : col R i col_kind ≡ kind_object
        → Writable (object (class_text R B i) (pairs_at f R B (i + 1) (col R i col_count))
        (pairs_at f R B (after R (i + 1) (col R i col_count)) (col R i col_count2)))
    unfolding children gives
    object-fits e =
        let n : ℕ = col R i col_count in
        let m : ℕ = col R i col_count2 in
        let c : children R i ≡ n + m = rw e in
        let w = walk (n + m) c in
        let stop : ℕ = col R i col_end in
        rw (add-one i, pairs-count f R B (suc i) n) (
          class-fits IsKey (rw e) (object-class e),
          members-fit f good i stop n (omega arith) w,
          pairs-fit f good i stop m (omega arith) (walk_after R i stop n (omega arith) w) (λ j a l. rw (e, le-ltb j n (omega arith))),
          omega (arith, counted (n + m) c),
        )

    vector-fits : col R i col_kind ≡ kind_object_vector → Writable (object_vector (flag_set R i) (class_text R B i) (trees_at f R (i + 1) (col R i col_count)))
    unfolding children
    vector-fits e =
        let n : ℕ = col R i col_count in
        let c : children R i ≡ n = rw e in
        rw (add-one i, trees-count f R (suc i) n)
        (class-fits IsType (rw e) (vector-class e), trees-fit f good i (col R i col_end) n (omega arith) (walk n c), omega (arith, counted n c))

    dictionary-fits : col R i col_kind ≡ kind_dictionary → Writable (dictionary (flag_set R i) (entries_at f R (i + 1) (col R i col_count)))
    unfolding children
    dictionary-fits e =
        let n : ℕ = col R i col_count in
        let c : children R i ≡ 2 * n = rw e in
        rw (add-one i, entries-count f R (suc i) n)
        (entries_fit f good i (col R i col_end) n (omega arith) (walk (2 * n) c), omega (arith, counted (2 * n) c))

    node-fits : Writable (node f R B i)
    unfolding node body_writable value_fits
    node-fits =
        kind-is (col R i col_kind) 0 (omega arith) (λ e. rw e tt) λ l.
        kind-is (col R i col_kind) kind_undefined l (λ e. rw e tt) λ l.
        kind-is (col R i col_kind) kind_null l (λ e. rw e tt) λ l.
        kind-is (col R i col_kind) kind_boolean l (λ e. rw e tt) λ l.
        kind-is (col R i col_kind) kind_integer l (λ e. rw e (integer-fits e)) λ l.
        kind-is (col R i col_kind) kind_double l (λ e. rw e (word i col_number)) λ l.
        kind-is (col R i col_kind) kind_string l (λ e. rw e (text-fits (rw e at (rows i h).body))) λ l.
        kind-is (col R i col_kind) kind_xml_document l (λ e. rw e (text-fits (rw e at (rows i h).body))) λ l.
        kind-is (col R i col_kind) kind_date l (λ e. rw e (date-fits e)) λ l.
        kind-is (col R i col_kind) kind_array l (λ e. rw e (array-fits e)) λ l.
        kind-is (col R i col_kind) kind_object l (λ e. rw e (object-fits e)) λ l.
        kind-is (col R i col_kind) kind_xml l (λ e. rw e (text-fits (rw e at (rows i h).body))) λ l.
        kind-is (col R i col_kind) kind_byte_array l (λ e. rw e (short (col R i col_body_begin) (col R i col_body_size))) λ l.
        kind-is (col R i col_kind) kind_int_vector l (λ e. rw e (raw-fits 4 (omega arith) (rw e at (rows i h).formed.value))) λ l.
        kind-is (col R i col_kind) kind_uint_vector l (λ e. rw e (raw-fits 4 (omega arith) (rw e at (rows i h).formed.value))) λ l.
        kind-is (col R i col_kind) kind_double_vector l (λ e. rw e (raw-fits 8 (omega arith) (rw e at (rows i h).formed.value))) λ l.
        kind-is (col R i col_kind) kind_object_vector l (λ e. rw e (vector-fits e)) λ l.
        kind-is (col R i col_kind) kind_dictionary l (λ e. rw e (dictionary-fits e)) λ l.
        kind-is (col R i col_kind) kind_reference l (λ e. rw e tt) λ l.
        absurd (omega (arith, (rows i h).formed.high))

  -- ---- every row

  tree-fits : (levels i : ℕ) → i < rows_in R → Writable (tree_at levels R B i)
  unfolding tree_at
  tree-fits zero i h = tt
  tree-fits (suc levels) i h = node-fits (tree_at levels R B) (tree-fits levels) (home R i) (home-row R B formed i h)

-- the tree of tested rows can be written; a number of a row has 64 bits
pub unfolded-fits : (R B : List ℕ) → fault_of (memory R B [] [] [] []) ≡ 0 → tested R B ≡ fine → ((i : ℕ) → get_or R i 0 < 2 ^ 64) → Writable (unfolded R B 0)
unfolding unfolded
unfolded-fits R B f t words =
    let b = lent (memory R B [] [] [] []) f in
    let r = tested-rows R B t in
    tree-fits R B b.rows b.store r.1 words (rows_in R) 0 r.0
