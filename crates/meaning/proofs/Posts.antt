-- What holds of a reader's result, if it gives one; and for every decision, what is asked for that to hold of what it gives.
use Rattle.std.proofs.Common.{Option, Some, None}
use mathlib.Core.Path.{◌≡◌, refl}
use mathlib.Core.Bool.{Bool, true, false, cond, not}
use mathlib.Core.List.{List, [], ◌∷◌}
use Prim.Native.Nat.{ℕ, zero, suc, ◌+◌, ◌-◌, ◌*◌, ◌/◌, ◌<◌, ◌≤◌}
use native.Mathlib.Omega.{arith}
use borrow.Author.Tests.{ltb-false, leb-true, leb-false, eqb-true, eqb-false}
use lib.Dec.{leb, ltb, eqb}
use lib.ListN.{length, get_or, set}
use lib.Seq.{sets}
use Rattle.rows.specs.declared.Cursor.{Cursor}
use Rattle.rows.specs.declared.Span.{Span}
use Rattle.rows.specs.declared.Key.{Key}
use Rattle.rows.specs.declared.Trait.{Trait}
use Rattle.rows.specs.Memory.{Memory, message_limit, span, key_of, span_at, span_used, put, row_used, col_kind, col_body_begin, col_body_size}
use Rattle.rows.specs.Memory.{col_class_mark, col_flag, col_number, col_count, col_end, col}
use Rattle.wire.specs.declared.Part.{Part}
use Rattle.wire.specs.declared.Part.TheVariants.{More, Whole}
use Rattle.wire.specs.U29.{part_of}
use Rattle.wire.specs.Big.{digit_of}
use Rattle.wire.specs.Date.{refused_date}
use Rattle.format.specs.Decide.{Out, stop, give, lift, rows_to, store_to, strings_to, objects_to, traits_to, names_to, trait_at, trait_holds, new_row, marker}
use Rattle.format.specs.Decide.{closed, numbered, date_end, bodied, classed, flagged, counted, key_end, grown, Width, width_of, old_text, reserved, stored}
use Rattle.format.specs.Decide.{judged, text_end, entered, referred, old_trait, named, trait_end, sealed_key, starred}
use Rattle.format.specs.Reading.{ok, bad, bind, Result, Reader, decided, byte, u29, number, on_part}
use Rattle.format.proofs.Tests.{on_bool}
use Rattle.format.proofs.Memories.{at_to, numbers}
use Rattle.rows.specs.Memory.{row_width}

-- ---- results

pub data Post {A : Type 0} (Q : A → Memory → Cursor → Type 0) : Result A → Type 0 where
  stops : {n t p : ℕ} {m : Memory} → Post Q (bad n t p m)
  gets : {a : A} {m : Memory} {c : Cursor} {bs : List ℕ} → Q a m c → Post Q (ok a m c bs)

-- a reader after a reader
pub post_then : {A B : Type 0} {Q : B → Memory → Cursor → Type 0} (f : A → Reader B) (x : Result A)
    → Post (λ a m c. (bs : List ℕ) → Post Q (f a m c bs)) x → Post Q (bind x f)
post_then f x stops = stops
post_then f x (gets h) = h _

pub post_map : {A : Type 0} {P Q : A → Memory → Cursor → Type 0} (x : Result A) → Post P x → ((a : A) (m : Memory) (c : Cursor) → P a m c → Q a m c)
    → Post Q x
post_map x stops f = stops
post_map x (gets h) f = gets (f _ _ _ h)

-- ---- decisions

pub data Gives {S A : Type 0} (Q : A → S → Cursor → Type 0) : Out S A → Type 0 where
  halts : {n t p : ℕ} → Gives Q (stop n t p)
  gives : {a : A} {s : S} {c : Cursor} → Q a s c → Gives Q (give a s c)

pub post_by : {S A : Type 0} {Q : A → Memory → Cursor → Type 0} (g : S → Memory) (m : Memory) (bs : List ℕ) (o : Out S A) → Gives (λ a s c. Q a (g s) c) o
    → Post Q (decided (lift g o) m bs)
post_by g m bs o halts = stops
post_by g m bs o (gives h) = gets h

-- a refusal comes first, or second
unless : {S A : Type 0} {Q : A → S → Cursor → Type 0} (t : Bool) {x y : Out S A} → Gives Q x → (t ≡ false → Gives Q y) → Gives Q (cond t x y)
unless true h k = h
unless false h k = k refl

only : {S A : Type 0} {Q : A → S → Cursor → Type 0} (t : Bool) {x y : Out S A} → (t ≡ true → Gives Q x) → Gives Q y → Gives Q (cond t x y)
only true h k = h refl
only false h k = k

-- ---- rows

module _ {Q : Unit {0} → List ℕ → Cursor → Type 0} (row : ℕ) (R : List ℕ) (c : Cursor) where
  pub wp_closed : Q tt (put R row col_end c.rows) c → Gives Q (closed row R c)
  unfolding closed
  wp_closed h = only (row_used R c row) (λ e. gives h) halts

  pub wp_numbered : (n : ℕ) → Q tt (put (put R row col_number n) row col_end c.rows) c → Gives Q (numbered row n R c)
  unfolding numbered
  wp_numbered n h = only (row_used R c row) (λ e. gives h) halts

  pub wp_date : (bits : ℕ) → (refused_date bits ≡ false → Q tt (put (put R row col_number bits) row col_end c.rows) c) → Gives Q (date_end row bits R c)
  unfolding date_end
  wp_date bits h = only (row_used R c row) (λ e. unless (refused_date bits) halts (λ f. wp_numbered bits (h f))) halts

  pub wp_bodied : (s : Span) → Q tt (put (put R row col_body_begin s.begin) row col_body_size s.size) c → Gives Q (bodied row s R c)
  unfolding bodied
  wp_bodied s h = only (row_used R c row) (λ e. gives h) halts

  pub wp_classed : (mark : ℕ) (s : Span) → Q tt (put (put (put R row col_class_mark mark) row col_body_begin s.begin) row col_body_size s.size) c
      → Gives Q (classed row mark s R c)
  unfolding classed
  wp_classed mark s h = only (row_used R c row) (λ e. gives h) halts

  pub wp_flagged : (flag : ℕ) → Q tt (put R row col_flag flag) c → Gives Q (flagged row flag R c)
  unfolding flagged
  wp_flagged flag h = only (row_used R c row) (λ e. gives h) halts

  pub wp_counted : (column done : ℕ) → Q tt (put R row column (done + 1)) c → Gives Q (counted row column done R c)
  unfolding counted
  wp_counted column done h = unless (leb c.rows done) halts (λ e. only (row_used R c row) (λ e. gives h) halts)

  pub wp_grown : (w : Width) (s : Span) (n : ℕ) → Q tt (put R row col_count ((s.size - n) / width_of w)) c → Gives Q (grown row w s n R c)
  unfolding grown
  wp_grown w s n h = only (row_used R c row) (λ e. gives h) halts

  -- the object is one that has ended
  pub wp_referred : (i : ℕ) (O : List ℕ) → (i < c.objects → (col R (get_or O i 0) col_end ≡ 0 → ⊥)
      → Q tt (put (put (put R row col_kind 18) row col_number (get_or O i 0)) row col_end c.rows) c) → Gives Q (referred row i O R c)
  unfolding referred
  wp_referred i O h =
      unless (ltb (length O) c.objects) halts (λ e. unless (leb c.objects i) halts (λ f. unless (not (row_used R c (get_or O i 0))) halts (λ g.
      unless (ltb c.rows (col R (get_or O i 0) col_end)) halts (λ k. unless (eqb (col R (get_or O i 0) col_end) 0) halts (λ l.
      only (row_used R c row) (λ e. gives (h (leb-false c.objects i f) (eqb-false _ 0 l))) halts)))))

pub wp_marker : {Q : ℕ → List ℕ → Cursor → Type 0} (k : Key) (left b : ℕ) (R : List ℕ) (c : Cursor)
    → (b ≤ 17 → c.rows * row_width + row_width ≤ length R → Q c.rows (sets R (c.rows * row_width) (new_row b k c.rows)) (rows_to c (c.rows + 1)))
    → Gives Q (marker k left b R c)
unfolding marker
wp_marker k left b R c h =
    unless (ltb (length R / row_width) c.rows) halts (λ e. unless (ltb 17 b) halts
    (λ f. unless (eqb left 0) halts (λ g. unless (leb (length R / row_width) c.rows) halts (λ i.
    let l = leb-false (length R / row_width) c.rows i in
    gives (h (ltb-false 17 b f) (omega arith))))))

-- a row is only looked at
pub wp_key-end : {Q : Unit {0} → Unit {0} → Cursor → Type 0} (row done : ℕ) (R : List ℕ) (c : Cursor) → Q tt tt c → Gives Q (key_end row done R c)
unfolding key_end
wp_key-end row done R c h = unless (leb c.rows done) halts (λ e. only (row_used R c row) (λ e. gives h) halts)

-- ---- the other loans

module _ (c : Cursor) where
  pub wp_old-text : {Q : Span → Unit {0} → Cursor → Type 0} (i : ℕ) (T : List ℕ) → (i < c.strings → Q (span_at T i) tt c) → Gives Q (old_text i T c)
  unfolding old_text
  wp_old-text i T h =
      unless (ltb (length T / 2) c.strings) halts (λ e. unless (leb c.strings i) halts
      (λ f. only (span_used c (span_at T i)) (λ g. gives (h (leb-false c.strings i f))) halts))

  pub wp_reserved : {Q : Span → Unit {0} → Cursor → Type 0} (n : ℕ) (B : List ℕ)
      → (c.store + n ≤ length B → Q (span c.store n) tt (store_to c (c.store + n)))
      → Gives Q (reserved n B c)
  unfolding reserved
  wp_reserved n B h = unless (ltb (length B) c.store) halts (λ e. unless (ltb (length B) (c.store + n)) halts
      (λ f. gives (h (ltb-false (length B) (c.store + n) f))))

  pub wp_stored : {Q : Unit {0} → List ℕ → Cursor → Type 0} (s : Span) (n b : ℕ) (B : List ℕ)
      → (n < s.size → s.begin + s.size ≤ length B → Q tt (set B (s.begin + (s.size - (n + 1))) b) c) → Gives Q (stored s n b B c)
  unfolding stored
  wp_stored s n b B h =
      unless (ltb (length B) c.store) halts (λ e. unless (leb s.size n) halts (λ f. only (span_used c s) (λ g.
      let a = ltb-false (length B) c.store e in
      let l = leb-true (s.begin + s.size) c.store g in
      gives (h (leb-false s.size n f) (omega arith))) halts))

  pub wp_judged : {Q : Unit {0} → Unit {0} → Cursor → Type 0} (valid : Bool) → (valid ≡ true → Q tt tt c) → Gives Q (judged valid c)
  unfolding judged
  wp_judged valid h = only valid (λ e. gives (h e)) halts

  pub wp_text-end : {Q : Span → List ℕ → Cursor → Type 0} (s : Span) (valid : Bool) (T : List ℕ)
      → (valid ≡ true → c.strings * 2 + 2 ≤ length T → Q s (sets T (c.strings * 2) (s.begin ∷ s.size ∷ [])) (strings_to c (c.strings + 1)))
      → Gives Q (text_end s valid T c)
  unfolding text_end
  wp_text-end s valid T h =
      unless (ltb (length T / 2) c.strings) halts (λ e. only valid (λ v. unless (leb (length T / 2) c.strings) halts (λ f.
      let l = leb-false (length T / 2) c.strings f in
      gives (h v (omega arith)))) halts)

  pub wp_entered : {Q : Unit {0} → List ℕ → Cursor → Type 0} (row : ℕ) (O : List ℕ)
      → (c.objects < length O → Q tt (set O c.objects row) (objects_to c (c.objects + 1))) → Gives Q (entered row O c)
  unfolding entered
  wp_entered row O h =
      unless (leb c.rows row) halts (λ e. unless (ltb (length O) c.objects) halts (λ f. unless (leb (length O) c.objects) halts (λ g.
      gives (h (leb-false (length O) c.objects g)))))

  pub wp_old_trait : {Q : Trait → Unit {0} → Cursor → Type 0} (i : ℕ) (U : List ℕ) → (i < c.traits → Q (trait_at U i) tt c) → Gives Q (old_trait i U c)
  unfolding old_trait
  wp_old_trait i U h =
      unless (ltb (length U / 5) c.traits) halts (λ e. unless (leb c.traits i) halts
      (λ f. only (trait_holds c (trait_at U i)) (λ g. gives (h (leb-false c.traits i f))) halts))

  pub wp_named : {Q : Span → List ℕ → Cursor → Type 0} (s : Span) (N : List ℕ)
      → (c.names * 2 + 2 ≤ length N → Q s (sets N (c.names * 2) (s.begin ∷ s.size ∷ [])) (names_to c (c.names + 1))) → Gives Q (named s N c)
  unfolding named
  wp_named s N h =
      unless (ltb (length N / 2) c.names) halts (λ e. unless (leb (length N / 2) c.names) halts (λ f.
      let l = leb-false (length N / 2) c.names f in
      gives (h (omega arith))))

  pub wp_trait_end : {Q : Unit {0} → List ℕ → Cursor → Type 0} (t : Trait) (U : List ℕ)
      → (c.traits * 5 + 5 ≤ length U → Q tt (sets U (c.traits * 5) (numbers t))
      (traits_to c (c.traits + 1)))
      → Gives Q (trait_end t U c)
  unfolding trait_end
  wp_trait_end t U h =
      unless (ltb (length U / 5) c.traits) halts (λ e. unless (not (trait_holds c t)) halts (λ f. unless (leb (length U / 5) c.traits) halts (λ g.
      let l = leb-false (length U / 5) c.traits g in
      gives (h (omega arith)))))

  pub wp_sealed : {Q : Key → Unit {0} → Cursor → Type 0} (i : ℕ) (N : List ℕ) → (i < c.names → Q (key_of (span_at N i)) tt c) → Gives Q (sealed_key i N c)
  unfolding sealed_key
  wp_sealed i N h =
      unless (ltb (length N / 2) c.names) halts (λ e. unless (leb c.names i) halts
      (λ f. only (span_used c (span_at N i)) (λ g. gives (h (leb-false c.names i f))) halts))

  -- the answer is right
  pub wp_starred : {Q : Bool → Unit {0} → Cursor → Type 0} (s : Span) (B : List ℕ) → (s.size ≡ 1 → Q (eqb (get_or B s.begin 0) 0x2A) tt c)
      → ((s.size ≡ 1 → ⊥) → Q false tt c) → Gives Q (starred s B c)
  unfolding starred
  wp_starred s B h k = on_bool (eqb s.size 1)
      (λ e. rw e (unless (ltb (length B) c.store) halts (λ f. only (span_used c s) (λ g. gives (h (eqb-true s.size 1 e))) halts)))
      (λ e. rw e (gives (k (eqb-false s.size 1 e))))

-- ---- bytes, words and numbers: the place alone changes

module _ {Q : ℕ → Memory → Cursor → Type 0} (m : Memory) where
  pub wp_byte : (c : Cursor) (bs : List ℕ) → ((b : ℕ) → Q b m (at_to c (suc c.at))) → Post Q (byte m c bs)
  unfolding byte
  wp_byte c [] h = stops
  wp_byte c (b ∷ bs) h = on_bool (leb message_limit c.at) (λ e. rw e stops) (λ e. rw e (gets (h b)))

module _ {Q : ℕ → Memory → Cursor → Type 0} (m : Memory) where
  part_post : (c : Cursor) (bs : List ℕ) (more : ℕ → Reader ℕ) (p : Option Part) → ((n : ℕ) → Post Q (more n m c bs)) → ((n : ℕ) → Q n m c)
      → Post Q (on_part more p m c bs)
  part_post c bs more (Some (More n)) h k = h n
  part_post c bs more (Some (Whole n)) h k = gets (k n)
  part_post c bs more None h k = stops

  pub wp_word : (left n : ℕ) (c : Cursor) (bs : List ℕ) → ((w a : ℕ) → Q w m (at_to c a)) → Post Q (u29 left n m c bs)
  unfolding u29
  wp_word zero n c bs h = post_then _ _ (wp_byte m c bs (λ b bs. part_post _ bs _ (part_of zero n b) (λ n. stops) (λ n. h n _)))
  wp_word (suc left) n c bs h = post_then _ _ (wp_byte m c bs (λ b bs. part_post _ bs _ (part_of (suc left) n b) (λ n. wp_word left n _ bs h) (λ n. h n _)))

  pub wp_number : (left n : ℕ) (c : Cursor) (bs : List ℕ) → ((w a : ℕ) → Q w m (at_to c a)) → Post Q (number left n m c bs)
  unfolding number
  wp_number zero n c bs h = post_then _ _ (wp_byte m c bs (λ b bs. part_post _ bs _ (digit_of zero n b) (λ n. stops) (λ n. h n _)))
  wp_number (suc left) n c bs h = post_then _ _ (wp_byte m c bs (λ b bs. part_post _ bs _ (digit_of (suc left) n b) (λ n. wp_number left n _ bs h)
      (λ n. h n _)))
