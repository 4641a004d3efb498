-- One law for all decisions: a decision that refuses says what a reading can say; one that doesn't keeps the place, the length of the loan that it writes,
-- and what is used within the loans, of which it gives back nothing.
use mathlib.Core.Path.{◌≡◌, refl, sym, ap, ◌∙◌}
use mathlib.Core.Bool.{Bool, true, false, cond, not, ◌&&◌}
use mathlib.Core.List.{List}
use Prim.Native.Nat.{ℕ, suc, ◌+◌, ◌/◌, ◌^◌, ◌≤◌, ◌<◌}
use native.Mathlib.Omega.{arith}
use native.Mathlib.Nat.{le_refl}
use lib.Dec.{T, leb, ltb, eqb}
use lib.ListN.{length, length-set}
use lib.Seq.{length-sets}
use borrow.Author.Tests.{leb-true, leb-false, ltb-true, ltb-false, eqb-true, le-leb, lt-ltb}
use Rattle.rows.specs.declared.Cursor.{Cursor}
use Rattle.rows.specs.declared.Span.{Span}
use Rattle.rows.specs.declared.Key.{Key}
use Rattle.rows.specs.declared.Trait.{Trait}
use Rattle.rows.specs.Memory.{Memory, row_width, span_width, trait_width, loan_fault, fault_of, message_most, message_limit, objects_most}
use Rattle.rows.specs.Memory.{rows_most, store_most}
use Rattle.wire.specs.Date.{refused_date}
use Rattle.rows.specs.declared.lent.Lent.{Lent}
use Rattle.format.specs.Decide.{Out, stop, give, refuse, lift, looking, on_rows, on_store, on_strings, on_objects, on_traits, on_names, Width}
use Rattle.format.specs.Decide.{rows_to, store_to, strings_to, objects_to, traits_to, names_to}
use Rattle.format.specs.Decide.{marker, closed, numbered, integer_end, date_end, bodied, classed, object_class, vector_class, flagged, counted, key_end}
use Rattle.format.specs.Decide.{grown, old_text, reserved, stored, judged, text_end, entered, referred, old_trait, named, trait_end, sealed_key, starred}
use Rattle.format.specs.Numbers.{lent_of, finishable}
use Rattle.format.proofs.Tests.{on_bool, is_true}
use Rattle.format.proofs.Loans as loans
use Rattle.format.proofs.Used.{Counts, RowIn, SpanIn, KeyIn, Roomy, Grows, grows_same}
use Rattle.format.specs.Refusals as no

-- ---- what a decision keeps

-- a cursor after another at the same place
pub record Moves (lent : Lent) (c d : Cursor) : Type 0 where
  pub place : d.at ≡ c.at
  pub grows : Grows c d
  pub counts : Counts lent c → Counts lent d

pub moves-same : {lent : Lent} {c : Cursor} → Moves lent c c
moves-same = record { place = refl; grows = grows_same _; counts = λ h. h }

-- one count is more, where there is room
module _ {lent : Lent} {c : Cursor} where
  moves-rows : c.rows < lent.rows / row_width → Moves lent c (rows_to c (c.rows + 1))
  moves-rows h = omega arith

  moves-store : (n : ℕ) → c.store + n ≤ lent.store → Moves lent c (store_to c (c.store + n))
  moves-store n h = omega arith

  moves-strings : c.strings < lent.strings / span_width → Moves lent c (strings_to c (c.strings + 1))
  moves-strings h = omega arith

  moves-objects : c.objects < lent.objects → Moves lent c (objects_to c (c.objects + 1))
  moves-objects h = omega arith

  moves-traits : c.traits < lent.traits / trait_width → Moves lent c (traits_to c (c.traits + 1))
  moves-traits h = omega arith

  moves-names : c.names < lent.names / span_width → Moves lent c (names_to c (c.names + 1))
  moves-names h = omega arith

last_row : (n : ℕ) → n < n + 1
last_row n = omega arith

-- ---- what a decision says

-- what is told: a byte above the markers; an index of a word; one below the used objects; bits that are refused
told-marker : {b : ℕ} → 0x11 < b → b < 2 ^ 8 → T (no.tells no.bad_marker b)
unfolding no.tells
told-marker {b} h k = rw (lt-ltb 0x11 b h, lt-ltb b (2 ^ 8) k) tt

told-entry : {i : ℕ} → i < 2 ^ 28 → T (no.tells no.no_entry i)
unfolding no.tells
told-entry {i} h = rw (lt-ltb i (2 ^ 28) h) tt

told_open : {i n : ℕ} → i < n → n ≤ objects_most → T (no.tells no.open_object i)
unfolding no.tells
told_open {i} {n} h k = let l : i < objects_most = omega arith in rw (lt-ltb i objects_most l) tt

told-date : {bits : ℕ} → refused_date bits ≡ true → bits < 2 ^ 64 → T (no.tells no.bad_date bits)
unfolding no.tells
told-date {bits} e h = rw (lt-ltb bits (2 ^ 64) h, e) tt

-- a refusal at the place of the cursor, which tells what it may where B holds (that the byte is one); or 12
pub data Says (B : Type 0) (c : Cursor) : ℕ → ℕ → ℕ → Type 0 where
  says : {n told : ℕ} → (B → T (no.tells n told)) → Says B c n told c.at
  strays : Says B c no.lost 0 0

-- what a decision at a cursor may give, where P is asked of the loans that it wrote, and Q of what it gives
pub data Keeps {S A : Type 0} (B : Type 0) (P : S → Type 0) (Q : A → Cursor → Type 0) (lent : Lent) (c : Cursor) : Out S A → Type 0 where
  refuses : {n told place : ℕ} → Says B c n told place → Keeps B P Q lent c (stop n told place)
  gives : {a : A} {s : S} {d : Cursor} → P s → Moves lent c d → Q a d → Keeps B P Q lent c (give a s d)

module _ {S A B : Type 0} {P : S → Type 0} {Q : A → Cursor → Type 0} {lent : Lent} {c : Cursor} {x y : Out S A} where
  keeps-cond : (t : Bool) → Keeps B P Q lent c x → Keeps B P Q lent c y → Keeps B P Q lent c (cond t x y)
  keeps-cond true p q = p
  keeps-cond false p q = q

  keeps-used : (a b : ℕ) (t : Bool) → (a < b → Keeps B P Q lent c x) → Keeps B P Q lent c y → Keeps B P Q lent c (cond (ltb a b && t) x y)
  keeps-used a b true p q = on_bool (ltb a b) (λ e. rw e (p (ltb-true a b e))) (λ e. rw e q)
  keeps-used a b false p q = on_bool (ltb a b) (λ e. rw e q) (λ e. rw e q)

  keeps-leb : (a b : ℕ) → (a ≤ b → Keeps B P Q lent c x) → (b < a → Keeps B P Q lent c y) → Keeps B P Q lent c (cond (leb a b) x y)
  keeps-leb a b p q = on_bool (leb a b) (λ e. rw e (p (leb-true a b e))) (λ e. rw e (q (leb-false a b e)))

  keeps-ltb : (a b : ℕ) → (a < b → Keeps B P Q lent c x) → (b ≤ a → Keeps B P Q lent c y) → Keeps B P Q lent c (cond (ltb a b) x y)
  keeps-ltb a b p q = on_bool (ltb a b) (λ e. rw e (p (ltb-true a b e))) (λ e. rw e (q (ltb-false a b e)))

-- a loan of the same length; nothing is written; a given row is used; nothing is asked
abbrev pub Long : List ℕ → List ℕ → Type 0
Long l k = length k ≡ length l

abbrev pub Same : Unit {0} → Type 0
Same x = Unit

abbrev pub RowOf : ℕ → Unit {0} → Cursor → Type 0
RowOf row x = RowIn row

abbrev pub Any : {A : Type 0} → A → Cursor → Type 0
Any a c = Unit

-- the next row
abbrev pub NewRow : Cursor → ℕ → Cursor → Type 0
NewRow c row d = (row ≡ c.rows) × RowIn row d

-- for `search`, which takes a pair apart
paired : {A B : Type 0} → A → B → A × B
paired a b = (a, b)

ruleset keeping = (keeps-leb, keeps-ltb, keeps-cond, refuses, says, strays, told-entry, told_open, told-marker, gives, moves-same, tt, refl)

ruleset counting = (keeping, moves-rows, moves-store, moves-strings, moves-objects, moves-traits, moves-names, last_row, le_refl, length-set, length-sets)

-- ---- rows

module _ {B : Type 0} (row : ℕ) (R : List ℕ) (lent : Lent) (c : Cursor) where
  pub keeps-closed : Keeps B (Long R) Any lent c (closed row R c)
  unfolding closed
  keeps-closed = search (keeping, length-set)

  pub keeps-numbered : (n : ℕ) → Keeps B (Long R) Any lent c (numbered row n R c)
  unfolding numbered
  keeps-numbered n = search (keeping, length-set)

  pub keeps-integer : (w : ℕ) → Keeps B (Long R) Any lent c (integer_end row w R c)
  unfolding integer_end
  keeps-integer w = keeps-numbered _

  pub keeps-date : (bits : ℕ) → (B → bits < 2 ^ 64) → Keeps B (Long R) Any lent c (date_end row bits R c)
  unfolding date_end
  keeps-date bits few = search (keeping, of (refused_date bits) refl)
    where
      of : (t : Bool) → refused_date bits ≡ t → Keeps B (Long R) Any lent c (cond t (refuse no.bad_date bits c) (numbered row bits R c))
      of true e = refuses (says (λ h. told-date e (few h)))
      of false e = keeps-numbered bits

  pub keeps-bodied : (s : Span) → Keeps B (Long R) Any lent c (bodied row s R c)
  unfolding bodied
  keeps-bodied s = search (keeping, length-set)

  pub keeps-classed : (mark : ℕ) (s : Span) → Keeps B (Long R) Any lent c (classed row mark s R c)
  unfolding classed
  keeps-classed mark s = search (keeping, length-set)

  pub keeps-object : (t : Trait) → Keeps B (Long R) Any lent c (object_class row t R c)
  unfolding object_class
  keeps-object t = keeps-classed _ _

  pub keeps-vector : (star : Bool) (s : Span) → Keeps B (Long R) Any lent c (vector_class row star s R c)
  unfolding vector_class
  keeps-vector true s = keeps-classed _ _
  keeps-vector false s = keeps-classed _ _

  pub keeps-flagged : (flag : ℕ) → Keeps B (Long R) Any lent c (flagged row flag R c)
  unfolding flagged
  keeps-flagged flag = search (keeping, length-set)

  -- a row of which an entry is counted is used; so is a row whose key ends
  pub keeps-counted : (col done : ℕ) → Keeps B (Long R) (RowOf row) lent c (counted row col done R c)
  unfolding counted
  keeps-counted col done = search (keeps-used, keeping, length-set)

  pub keeps-key-end : (done : ℕ) → Keeps B Same (RowOf row) lent c (key_end row done R c)
  unfolding key_end
  keeps-key-end done = search (keeps-used, keeping)

  pub keeps-grown : (w : Width) (s : Span) (n : ℕ) → Keeps B (Long R) Any lent c (grown row w s n R c)
  unfolding grown
  keeps-grown w s n = search (keeping, length-set)

  pub keeps-referred : (i : ℕ) (O : List ℕ) → (B → i < 2 ^ 28) → (B → c.objects ≤ objects_most) → Keeps B (Long R) Any lent c (referred row i O R c)
  unfolding referred
  keeps-referred i O few most = search (keeping, length-set) depth 12

-- ---- counts

module _ {B : Type 0} (m : Memory) (c : Cursor) where
  -- a marker gives the next row, which is then used; where no value may open, it is refused
  pub keeps-marker : (k : Key) (left b : ℕ) → (B → b < 2 ^ 8) → Keeps B (Long m.rows) (NewRow c) (lent_of m) c (marker k left b m.rows c)
  unfolding marker lent_of no.tells
  keeps-marker k left b few = search (counting, paired) depth 8

  pub keeps-shut : (k : Key) (b : ℕ) → (B → b < 2 ^ 8) → Keeps B (λ (l : List ℕ). ⊥) Any (lent_of m) c (marker k 0 b m.rows c)
  unfolding marker no.tells
  keeps-shut k b few = search keeping depth 8

  pub keeps-old-text : (i : ℕ) → (B → i < 2 ^ 28) → Keeps B Same SpanIn (lent_of m) c (old_text i m.strings c)
  unfolding old_text
  keeps-old-text i few = search keeping depth 8

  -- a reserved span is used, and has the room asked for
  pub keeps-reserved : (n : ℕ) → Keeps B Same (Roomy n) (lent_of m) c (reserved n m.store c)
  unfolding reserved lent_of no.tells
  keeps-reserved n = search counting depth 8

  pub keeps-stored : (s : Span) (n b : ℕ) → Keeps B (Long m.store) Any (lent_of m) c (stored s n b m.store c)
  unfolding stored
  keeps-stored s n b = search (keeping, length-set)

  pub keeps-judged : (valid : Bool) → Keeps B Same Any (lent_of m) c (judged valid c)
  unfolding judged no.tells
  keeps-judged valid = search keeping

  -- a text's last byte; where its span is used, so is the one given
  pub keeps-pushed-text : (s : Span) (valid : Bool) → Keeps B (Long m.strings) Any (lent_of m) c (text_end s valid m.strings c)
  unfolding text_end lent_of no.tells
  keeps-pushed-text s valid = search counting depth 8

  pub keeps-text-end : (s : Span) (valid : Bool) → SpanIn s c
      → Keeps B (Long m.strings) SpanIn (lent_of m) c (text_end s valid m.strings c)
  unfolding text_end lent_of no.tells
  keeps-text-end s valid h = search counting depth 8

  pub keeps-entered : (row : ℕ) → Keeps B (Long m.objects) Any (lent_of m) c (entered row m.objects c)
  unfolding entered lent_of no.tells
  keeps-entered row = search counting depth 8

  pub keeps-old_trait : (i : ℕ) → (B → i < 2 ^ 28) → Keeps B Same Any (lent_of m) c (old_trait i m.traits c)
  unfolding old_trait
  keeps-old_trait i few = search keeping depth 8

  pub keeps-named : (s : Span) → Keeps B (Long m.names) Any (lent_of m) c (named s m.names c)
  unfolding named lent_of no.tells
  keeps-named s = search counting depth 8

  pub keeps_trait_end : (t : Trait) → Keeps B (Long m.traits) Any (lent_of m) c (trait_end t m.traits c)
  unfolding trait_end lent_of no.tells
  keeps_trait_end t = search counting depth 8

  pub keeps-sealed : (i : ℕ) → Keeps B Same KeyIn (lent_of m) c (sealed_key i m.names c)
  unfolding sealed_key
  keeps-sealed i = search counting depth 8

  pub keeps-starred : (s : Span) → Keeps B Same Any (lent_of m) c (starred s m.store c)
  unfolding starred
  keeps-starred s = search keeping

-- ---- a decision on the memory

-- the loans have these lengths
abbrev pub Lends : Lent → Memory → Type 0
Lends lent m = lent_of m ≡ lent

-- the lowest loan of faulty lengths
abbrev pub fault_in : Lent → ℕ
fault_in l = loan_fault l.rows l.store l.strings l.objects l.traits l.names

-- the loans have these lengths, which are not faulty and of which no more is used, and so many bytes are taken
pub record Holds (lent : Lent) (at : ℕ) (c : Cursor) (m : Memory) : Type 0 where
  pub lends : Lends lent m
  pub clean : fault_in lent ≡ 0
  pub place : c.at ≡ at
  pub within : at ≤ message_limit
  pub counts : Counts lent c

pub keeps-lift : {S A B : Type 0} {P : S → Type 0} {P' : Memory → Type 0} {Q : A → Cursor → Type 0} {lent : Lent} {c : Cursor} (f : S → Memory) {o : Out S A}
    → ((s : S) → P s → P' (f s)) → Keeps B P Q lent c o → Keeps B P' Q lent c (lift f o)
keeps-lift f h (refuses t) = refuses t
keeps-lift f h (gives p v q) = gives (h _ p) v q

-- ---- what is then within the maxima

-- the loans' own fault
pub fault-in : (m : Memory) → fault_in (lent_of m) ≡ fault_of m
unfolding lent_of
fault-in m = refl

module _ {lent : Lent} {at : ℕ} {c : Cursor} {m : Memory} (h : Holds lent at c m) where
  -- no loan is over its maximum; so are the counts, and a reading may finish
  pub holds-lent : loans.Lent m
  holds-lent = loans.lent m (sym (fault-in m) ∙ ap fault_in h.lends ∙ h.clean)

  counts_of : Counts (lent_of m) c
  counts_of = rw h.lends h.counts

  pub holds-objects : c.objects ≤ objects_most
  unfolding lent_of
  holds-objects = let l = holds-lent in let n = counts_of in omega arith

  pub holds-finishable : T (finishable c)
  unfolding lent_of
  holds-finishable =
      let l = holds-lent in let n = counts_of in
      let r : c.rows ≤ rows_most = omega arith in
      let s : c.store ≤ store_most = omega arith in
      rw (le-leb c.rows rows_most r, le-leb c.store store_most s) tt

-- no test is both
not-both : (t : Bool) → T t → T (not t) → ⊥
not-both true a b = b
not-both false a b = a

-- a number that a byte tells is none of the others
told-apart : (n told k : ℕ) → T (no.tells n told) → T (not (no.tells k told)) → eqb n k ≡ false
told-apart n told k h z = on_bool (eqb n k) (λ e. absurd (of (eqb-true n k e))) (λ e. e)
  where
    of : n ≡ k → ⊥
    of e = not-both (no.tells k told) (rw e at h) z

-- what a decision says after a byte can be said
pub says-sayable : {B : Type 0} {lent : Lent} {at : ℕ} {c : Cursor} {m : Memory} {n told place : ℕ} → Holds lent (suc at) c m → Says B c n told place
    → B → T (no.sayable n told place)
unfolding no.sayable no.tells message_limit
says-sayable {c} h (says {n} {told} t) b =
    let a : 1 ≤ c.at = omega arith in
    let z : c.at ≤ message_most = omega arith in
    rw (
      told-apart n told no.bad_loan (t b) tt,
      told-apart n told no.unexpected_end (t b) tt,
      told-apart n told no.too_long (t b) tt,
      told-apart n told no.lost (t b) tt,
      le-leb 1 c.at a,
      le-leb c.at message_most z,
      is_true (no.tells n told) (t b),
    ) tt
says-sayable h strays b = tt

-- ---- a decision on loans, as one on the memory

module _ {A B : Type 0} {Q : A → Cursor → Type 0} {lent : Lent} {at : ℕ} {m : Memory} {c : Cursor} (h : Holds lent at c m) where
  pub keeps-looking : (f : Memory → Cursor → Out (Unit {0}) A) → Keeps B Same Q (lent_of m) c (f m c) → Keeps B (Lends lent) Q lent c (looking f m c)
  keeps-looking f k = rw (← h.lends) (keeps-lift (λ x. m) (λ x p. refl) k)

  pub keeps-on-rows : (f : List ℕ → Cursor → Out (List ℕ) A) → Keeps B (Long m.rows) Q (lent_of m) c (f m.rows c)
      → Keeps B (Lends lent) Q lent c (on_rows f m c)
  unfolding lent_of
  keeps-on-rows f k = rw (← h.lends) (keeps-lift _ (λ s p. rw p) k)

  pub keeps-on-store : (f : List ℕ → Cursor → Out (List ℕ) A) → Keeps B (Long m.store) Q (lent_of m) c (f m.store c)
      → Keeps B (Lends lent) Q lent c (on_store f m c)
  unfolding lent_of
  keeps-on-store f k = rw (← h.lends) (keeps-lift _ (λ s p. rw p) k)

  pub keeps-on-strings : (f : List ℕ → Cursor → Out (List ℕ) A) → Keeps B (Long m.strings) Q (lent_of m) c (f m.strings c)
      → Keeps B (Lends lent) Q lent c (on_strings f m c)
  unfolding lent_of
  keeps-on-strings f k = rw (← h.lends) (keeps-lift _ (λ s p. rw p) k)

  pub keeps-on-objects : (f : List ℕ → Cursor → Out (List ℕ) A) → Keeps B (Long m.objects) Q (lent_of m) c (f m.objects c)
      → Keeps B (Lends lent) Q lent c (on_objects f m c)
  unfolding lent_of
  keeps-on-objects f k = rw (← h.lends) (keeps-lift _ (λ s p. rw p) k)

  pub keeps-on-traits : (f : List ℕ → Cursor → Out (List ℕ) A) → Keeps B (Long m.traits) Q (lent_of m) c (f m.traits c)
      → Keeps B (Lends lent) Q lent c (on_traits f m c)
  unfolding lent_of
  keeps-on-traits f k = rw (← h.lends) (keeps-lift _ (λ s p. rw p) k)

  pub keeps-on-names : (f : List ℕ → Cursor → Out (List ℕ) A) → Keeps B (Long m.names) Q (lent_of m) c (f m.names c)
      → Keeps B (Lends lent) Q lent c (on_names f m c)
  unfolding lent_of
  keeps-on-names f k = rw (← h.lends) (keeps-lift _ (λ s p. rw p) k)
