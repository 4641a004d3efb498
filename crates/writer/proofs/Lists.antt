-- Rows one after the other: their bytes, and what is left of a loop that writes them.
use mathlib.Core.Path.{◌≡◌, refl}
use mathlib.Core.Bool.{Bool, true, false, cond}
use mathlib.Core.List.{List, [], ◌∷◌}
use Prim.Native.Nat.{ℕ, zero, suc, ◌+◌, ◌*◌, ◌-◌, ◌<◌, ◌≤◌}
use native.Mathlib.Omega.{arith}
use borrow.Author.Tests.{ne_eqb}
use lib.Dec.{eqb}
use Rattle.rows.specs.Memory.{col_end, col}
use Rattle.format.specs.Standard.{Tree, text_bytes, name_bytes, trait_word}
use Rattle.format.specs.Unfold.{key_text, trees_at, pairs_at, entries_at}
use Rattle.format.specs.Writing.{Stream, done, ◌then◌, these, emit_trees, emit_pairs, emit_values, emit_dynamic, emit_entries}
use Rattle.format.proofs.Unfolded.{pairs-count}
use Rattle.std.specs.Prelude.{Ok, Err}
use Rattle.writer.specs.declared.Stop.{Stop}
use Rattle.writer.specs.declared.Writer.{Writer}
use Rattle.writer.specs.Run.{Writes}
use Rattle.writer.specs.Pieces.{value_at, items_at, pairings_at, members_at, names_at}
use Rattle.writer.proofs.Streams.{Text, these-append, nothing, Rest, rest_end, rest_stop, rest_more}

-- ---- values in one order, whatever they are members of

module _ (F : Tree → Stream) (f : ℕ → Tree) (R : List ℕ) where
  pub values-items : (B : List ℕ) (k n : ℕ) → emit_values F (pairs_at f R B k n) ≡ emit_trees F (trees_at f R k n)
  unfolding emit_values emit_trees pairs_at trees_at
  values-items B k zero = refl
  values-items B k (suc n) = rw (values-items B (col R k col_end) n)

  pub entries-items : (k n : ℕ) → emit_entries F (entries_at f R k n) ≡ emit_trees F (trees_at f R k (n * 2))
  unfolding emit_entries emit_trees entries_at trees_at
  entries-items k zero = refl
  entries-items k (suc n) =
      let z : suc n * 2 ≡ suc (suc (n * 2)) = omega arith in
      rw (z, entries-items (col R (col R k col_end) col_end) n)

  module _ (B : List ℕ) (k : ℕ) where
    pub dynamic-none : (m : ℕ) → m ≡ 0 → emit_dynamic F (pairs_at f R B k m) ≡ done
    unfolding emit_dynamic pairs_at
    dynamic-none zero h = refl
    dynamic-none (suc m) h = absurd (omega arith)

    pub dynamic-some : (m : ℕ) → (m ≡ 0 → ⊥) → emit_dynamic F (pairs_at f R B k m) ≡ emit_pairs F (pairs_at f R B k m) then these (0x01 ∷ [])
    unfolding emit_dynamic pairs_at
    dynamic-some zero h = absurd (h refl)
    dynamic-some (suc m) h = refl

-- the key of a row in a loop, where it has one
abbrev pub member_key : Bool → ℕ → List ℕ → List ℕ → Stream
member_key keyed k R B = cond keyed (these (text_bytes (key_text R B k))) done

-- ---- names don't look at values

pub names_same : (f g : ℕ → Tree) (R B : List ℕ) (k n : ℕ) → name_bytes (pairs_at f R B k n) ≡ name_bytes (pairs_at g R B k n)
unfolding name_bytes pairs_at
names_same f g R B k zero = refl
names_same f g R B k (suc n) = rw (names_same f g R B (col R k col_end) n)

-- dynamic only where there are dynamic members
pub word-is : (f : ℕ → Tree) (R B : List ℕ) (k n l m : ℕ) → trait_word (pairs_at f R B k n) (pairs_at f R B l m) ≡ cond (eqb m 0) (n * 16 + 3) (n * 16 + 11)
unfolding trait_word pairs_at
word-is f R B k n l zero = rw (pairs-count f R B k n)
word-is f R B k n l (suc m) = rw (pairs-count f R B k n, ne_eqb (suc m) 0 (λ z. omega arith))

-- ---- what is left of a loop after i of n rows

none_left : (i n : ℕ) → n ≤ i → n - i ≡ 0
none_left i n h = omega arith

some_left : (i n : ℕ) → i < n → n - i ≡ suc (n - (i + 1))
some_left i n h = omega arith

module _ (l : ℕ) (R B : List ℕ) (k i n : ℕ) where
  items_none : n ≤ i → items_at l R B k (n - i) ≡ done
  unfolding emit_trees trees_at
  items_none h = rw (none_left i n h)

  items_some : i < n → items_at l R B k (n - i) ≡ value_at l R B k then items_at l R B (col R k col_end) (n - (i + 1))
  unfolding emit_trees trees_at
  items_some h = rw (some_left i n h)

  pairs_none : n ≤ i → pairings_at l R B k (n - i) ≡ done
  unfolding emit_pairs pairs_at
  pairs_none h = rw (none_left i n h)

  pairs_some : i < n → pairings_at l R B k (n - i) ≡ these (text_bytes (key_text R B k)) then value_at l R B k then pairings_at l R B (col R k col_end) (n - (i + 1))
  unfolding emit_pairs pairs_at
  pairs_some h = rw (some_left i n h)

  pub members_none : (keyed : Bool) → n ≤ i → members_at l keyed k (n - i) R B ≡ done
  members_none true h = pairs_none h
  members_none false h = items_none h

  pub members_some : (keyed : Bool) {e : ℕ} → i < n → e ≡ col R k col_end
      → members_at l keyed k (n - i) R B ≡ member_key keyed k R B then value_at l R B k then members_at l keyed e (n - (i + 1)) R B
  unfolding ◌then◌
  members_some true h e = rw e (pairs_some h)
  members_some false h e = rw e (items_some h)

module _ (f : ℕ → Tree) (R B : List ℕ) (k i n : ℕ) where
  pub names_none : n ≤ i → these (names_at f R B k (n - i)) ≡ done
  unfolding these name_bytes pairs_at
  names_none h = rw (none_left i n h)

  pub names_some : {e : ℕ} → i < n → e ≡ col R k col_end
      → these (names_at f R B k (n - i)) ≡ these (text_bytes (key_text R B k)) then these (names_at f R B e (n - (i + 1)))
  unfolding name_bytes pairs_at
  names_some h e = rw (some_left i n h, e) (these-append (text_bytes (key_text R B k)) (names_at f R B (col R k col_end) (n - (i + 1))))

-- ---- the loops

-- the key of a row in a loop is written, where it has one
module _ {m n : Writer} {keyed : Bool} (row : ℕ) where
  pub with_key : {u : Unit {0}} {k : Writer} → keyed ≡ true → n ≡ k → Writes (Ok u) m k (λ R B. these (text_bytes (key_text R B row)))
      → Writes (Ok u) m n (member_key keyed row)
  with_key t e w = rw (t, e) w

  pub without_key : keyed ≡ false → n ≡ m → Writes (Ok tt) m n (member_key keyed row)
  without_key t e = rw (t, e) (nothing m refl)

module _ (l : ℕ) (keyed : Bool) {o m : Writer} (row i n : ℕ) {y : Text} (w : Rest o m (members_at l keyed row (n - i)) y) where
  pub members-end : n ≤ i → Writes (Ok tt) o m y
  members-end h = rest_end w (members_none l o.table.rows.now o.table.store.now row i n keyed h)

  module _ (h : i < n) where
    pub key_stops : {k : Writer} {s : Stop} → keyed ≡ true → Writes (Err s) m k (λ R B. these (text_bytes (key_text R B row))) → Writes (Err s) o k y
    key_stops {k} {s} t v =
        let v' : Writes (Err s) m k (member_key keyed row) = rw t v in
        rest_stop w (member_key keyed row) (λ R B. value_at l R B row then members_at l keyed (col o.table.rows.now row col_end) (n - (i + 1)) R B)
        (members_some l o.table.rows.now o.table.store.now row i n keyed h refl) v'

    module _ {k : Writer} (v : Writes (Ok tt) m k (member_key keyed row)) where
      at_value : Rest o k (λ R B. value_at l R B row then members_at l keyed (col o.table.rows.now row col_end) (n - (i + 1)) R B) y
      at_value = rest_more w (member_key keyed row) _ (members_some l o.table.rows.now o.table.store.now row i n keyed h refl) v

      pub value_stops : {u : Writer} {s : Stop} → Writes (Err s) k u (λ R B. value_at l R B row) → Writes (Err s) o u y
      value_stops x = rest_stop at_value (λ R B. value_at l R B row) (members_at l keyed (col o.table.rows.now row col_end) (n - (i + 1))) refl x

      pub members_more : {u : Writer} {a : Unit {0}} {e : ℕ} → Writes (Ok a) k u (λ R B. value_at l R B row) → e ≡ col u.table.rows.now row col_end
          → Rest o u (members_at l keyed e (n - (i + 1))) y
      members_more {u} {a} {e} x q =
          let t = rest_more at_value (λ R B. value_at l R B row) (members_at l keyed (col o.table.rows.now row col_end) (n - (i + 1))) refl x in
          let z : e ≡ col o.table.rows.now row col_end = rw t.same.table at q in
          rw z t

module _ (f : ℕ → Tree) {o m : Writer} (row i n : ℕ) {y : Text} (w : Rest o m (λ R B. these (names_at f R B row (n - i))) y) where
  pub names-end : n ≤ i → Writes (Ok tt) o m y
  names-end h = rest_end w (names_none f o.table.rows.now o.table.store.now row i n h)

  module _ (h : i < n) {k : Writer} where
    pub name_stops : {s : Stop} → Writes (Err s) m k (λ R B. these (text_bytes (key_text R B row))) → Writes (Err s) o k y
    name_stops v =
        rest_stop w (λ R B. these (text_bytes (key_text R B row))) (λ R B. these (names_at f R B (col o.table.rows.now row col_end) (n - (i + 1))))
        (names_some f o.table.rows.now o.table.store.now row i n h refl) v

    pub names_more : {a : Unit {0}} {e : ℕ} → Writes (Ok a) m k (λ R B. these (text_bytes (key_text R B row))) → e ≡ col k.table.rows.now row col_end
        → Rest o k (λ R B. these (names_at f R B e (n - (i + 1)))) y
    names_more {a} {e} v q =
        let t = rest_more w (λ R B. these (text_bytes (key_text R B row))) (λ R B. these (names_at f R B (col o.table.rows.now row col_end) (n - (i + 1))))
        (names_some f o.table.rows.now o.table.store.now row i n h refl) v in
        let z : e ≡ col o.table.rows.now row col_end = rw t.same.table at q in
        rw z t
