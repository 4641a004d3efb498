-- What texts and raw bodies leave: the bytes of their span, the text's entry, and else nothing.
use mathlib.Core.Path.{◌≡◌, refl, sym, ap, ◌∙◌}
use mathlib.Core.Bool.{Bool, true}
use mathlib.Core.List.{List, [], ◌∷◌}
use Prim.Native.Nat.{ℕ, zero, suc, ◌+◌, ◌-◌, ◌*◌, ◌<◌, ◌≤◌}
use native.Mathlib.Omega.{arith}
use lib.Dec.{eqb}
use lib.ListN.{length, get_or, set, length-set}
use lib.Seq.{sets, get_or-set_same, drop-cons}
use Rattle.rows.specs.declared.Cursor.{Cursor}
use Rattle.rows.specs.declared.Span.{Span}
use Rattle.rows.specs.Memory.{Memory, memory, cursor, span, no_span, span_at}
use Rattle.wire.specs.declared.Size.{Size}
use Rattle.wire.specs.declared.Size.TheVariants.{Old, New}
use Rattle.wire.specs.Word.{size_of}
use Rattle.utf8.specs.Grammar.{valid_text}
use Rattle.utf8.specs.States.{step_of, fold_of}
use Rattle.utf8.proofs.Fold.{fold_valid}
use Rattle.format.specs.Decide.{on_store, stored}
use Rattle.format.specs.Reading.{Reader, Result, decided, chars, fill, text_of, text, plain}
use Rattle.format.specs.Unfold.{part}
use Rattle.format.proofs.Lists.{Kept, kept_set}
use Rattle.format.proofs.Memories.{with_rows, at_to, with_store}
use Rattle.meaning.proofs.Posts.{Post, stops, gets, post_then, post_by, wp_byte, wp_word, wp_stored, wp_reserved, wp_old-text, wp_text-end}

-- a byte at place p of the store, and what is behind it
part-cons : (B C : List ℕ) (p b z : ℕ) → p < length B → Kept (suc p) (set B p b) C → length C ≡ length B → part C p (suc z) ≡ b ∷ part C (suc p) z
unfolding part
part-cons B C p b z h k l =
    let f : p < length C = omega arith in
    let e : get_or C p 0 ≡ b = k p (omega arith) ∙ get_or-set_same B p b 0 h in
    rw (drop-cons C p 0, e)

kept_more : (B C : List ℕ) (p b : ℕ) → Kept (suc p) (set B p b) C → Kept p B C
kept_more B C p b k i h = k i (omega arith) ∙ kept_set p p b B (omega arith) i h

-- a byte of a span is stored at place p
wp_store : {Q : Unit {0} → Memory → Cursor → Type 0} (s : Span) (n b p : ℕ) (m : Memory) (c : Cursor) (bs : List ℕ) → p ≡ s.begin + (s.size - (n + 1))
    → (n < s.size → p < length m.store → Q tt (with_store m (set m.store p b)) c) → Post Q (decided (on_store (stored s n b) m c) m bs)
wp_store s n b p m c bs e h = post_by _ m bs _ (wp_stored c s n b m.store (λ l k. rw (← e) (h l (omega arith))))

-- bytes of a span from place p on; v is the verdict on them, behind the test so far
pub wp_chars : {Q : Bool → Memory → Cursor → Type 0} (s : Span) (n t p : ℕ) (m : Memory) (c : Cursor) (bs : List ℕ) → p ≡ s.begin + (s.size - (n + 1))
    → ((a : ℕ) (B : List ℕ) (v : Bool) → Kept p m.store B → length B ≡ length m.store → v ≡ eqb (fold_of t (part B p (suc n))) 0
    → Q v (with_store m B) (at_to c a))
    → Post Q (chars s n t m c bs)
unfolding chars fold_of part
wp_chars s zero t p m c bs e h = post_then _ _ (wp_byte m c bs (λ b bs. post_then _ _ (wp_store s 0 b p m _ bs e (λ l f bs.
    let B : List ℕ = set m.store p b in
    gets (h _ B _ (kept_set p p b m.store (omega arith)) (length-set m.store p b)
    (ap (λ xs. eqb (fold_of t xs) 0) (sym (part-cons m.store B p b 0 f (λ i l. refl) (length-set m.store p b)))))))))
wp_chars s (suc n) t p m c bs e h = post_then _ _ (wp_byte m c bs (λ b bs. post_then _ _ (wp_store s (suc n) b p m _ bs e (λ l f bs.
    let g = length-set m.store p b in
    wp_chars s n (step_of t b) (suc p) _ _ bs (omega arith) (λ a B v k z q.
    h a B v (kept_more m.store B p b k) (z ∙ g) (q ∙ ap (λ xs. eqb (fold_of t xs) 0) (sym (part-cons m.store B p b (suc n) f k (z ∙ g)))))))))

-- ---- readers that change rows alone

pub data Only (m : Memory) (c : Cursor) (R : List ℕ) : Memory → Cursor → Type 0 where
  only : Only m c R (with_rows m R) c

pub post_only : {Q : Unit {0} → Memory → Cursor → Type 0} {m : Memory} {c : Cursor} {R : List ℕ} (x : Result Unit) → Post (λ u. Only m c R) x
    → Q tt (with_rows m R) c → Post Q x
post_only x stops h = stops
post_only x (gets only) h = gets h

-- raw bytes of a span from place p on, each followed by a change to the rows of which the last one stays
module _ (grow : ℕ → Reader Unit) (f : ℕ → List ℕ → List ℕ)
    (does : (left : ℕ) (m : Memory) (c : Cursor) (bs : List ℕ) → Post (λ x. Only m c (f left m.rows)) (grow left m c bs))
    (last : (a b : ℕ) (R : List ℕ) → f a (f b R) ≡ f a R) where
  pub wp_fill : {Q : Unit {0} → Memory → Cursor → Type 0} (s : Span) (n p : ℕ) (m : Memory) (c : Cursor) (bs : List ℕ) → p ≡ s.begin + (s.size - (n + 1))
      → ((a : ℕ) (B : List ℕ) → Kept p m.store B → length B ≡ length m.store → Q tt (with_store (with_rows m (f 0 m.rows)) B) (at_to c a))
      → Post Q (fill grow s n m c bs)
  unfolding fill
  wp_fill s zero p m c bs e h = post_then _ _ (wp_byte m c bs (λ b bs. post_then _ _ (wp_store s 0 b p m _ bs e (λ l g bs.
      post_only _ (does 0 _ _ bs) (h _ (set m.store p b) (kept_set p p b m.store (omega arith)) (length-set m.store p b))))))
  wp_fill s (suc n) p m c bs e h = post_then _ _ (wp_byte m c bs (λ b bs. post_then _ _ (post_then _ _ (wp_store s (suc n) b p m _ bs e (λ l g bs.
      let z = length-set m.store p b in
      post_only _ (does (suc n) _ _ bs) (λ bs. wp_fill s n (suc p) _ _ bs (omega arith) (λ a B k y.
      rw (last 0 (suc n) m.rows) (h a B (kept_more m.store B p b k) (y ∙ z)))))))))

-- ---- texts

-- nothing is done when its span is reserved
pub plain-only : (s : Span) (m : Memory) (c : Cursor) (bs : List ℕ) → Post (λ x. Only m c m.rows) (plain s m c bs)
plain-only s m c bs = gets only

module _ {Q : Span → Memory → Cursor → Type 0} (at : Span → Reader Unit) (f : Span → List ℕ → List ℕ)
    (does : (s : Span) (m : Memory) (c : Cursor) (bs : List ℕ) → Post (λ x. Only m c (f s m.rows)) (at s m c bs)) (m : Memory) (c : Cursor)
    (old : (i a : ℕ) → i < c.strings → Q (span_at m.strings i) m (at_to c a))
    (none : (a : ℕ) → Q no_span m (at_to c a))
    (new : (n a : ℕ) (B : List ℕ) → Kept c.store m.store B → length B ≡ length m.store → c.store + suc n ≤ length m.store
    → c.strings * 2 + 2 ≤ length m.strings → valid_text (part B c.store (suc n)) ≡ true
    → Q (span c.store (suc n))
    (memory (f (span c.store (suc n)) m.rows) B (sets m.strings (c.strings * 2) (c.store ∷ suc n ∷ [])) m.objects m.traits m.names)
    (cursor a c.rows (c.store + suc n) (c.strings + 1) c.objects c.traits c.names)) where
  text-of : (z : Size) (a : ℕ) (bs : List ℕ) → Post Q (text_of at z m (at_to c a) bs)
  unfolding text_of
  text-of (Old i) a bs = post_by _ m bs _ (wp_old-text (at_to c a) i m.strings (old i a))
  text-of (New zero) a bs = gets (none a)
  text-of (New (suc n)) a bs = post_then _ _ (post_by _ m bs _ (wp_reserved (at_to c a) (suc n) m.store (λ r bs.
      post_then _ _ (post_then _ _ (post_only _ (does (span c.store (suc n)) m _ bs) (λ bs.
      wp_chars (span c.store (suc n)) n 0 c.store _ _ bs (omega arith) (λ a B v k l q bs.
      post_by _ _ bs _ (wp_text-end _ (span c.store (suc n)) v m.strings
      (λ w x. new n a B k l r x (sym (fold_valid (part B c.store (suc n))) ∙ sym q ∙ w))))))))))

  pub wp_text : (bs : List ℕ) → Post Q (text at m c bs)
  unfolding text
  wp_text bs = post_then _ _ (wp_word m 3 0 c bs (λ w a bs. text-of (size_of w) a bs))
