-- A byte's refusal has its reason. Any number but 12 has the place of the byte itself, and tells what document 01 says; the loans are zeroed. 9 comes of a marker where
-- as many values are open as can be; 10 of a byte that asks for an entry, or for bytes, of a loan that has no more of them.
use Rattle.std.proofs.Common.{Option, Some, None}
use mathlib.Core.Path.{◌≡◌, refl, ap, ◌∙◌}
use mathlib.Core.Bool.{Bool, true, false, cond, not}
use mathlib.Core.List.{List, [], ◌∷◌}
use Prim.Native.Nat.{ℕ, zero, suc, ◌+◌, ◌*◌, ◌-◌, ◌/◌, ◌≤◌, ◌<◌}
use native.Mathlib.Omega.{arith}
use lib.Dec.{leb, ltb, eqb}
use lib.ListN.{length}
use borrow.Author.Tests.{leb-true, leb-false, ltb-true, ltb-false, eqb-true}
use Rattle.rows.specs.declared.Cursor.{Cursor}
use Rattle.rows.specs.declared.Span.{Span}
use Rattle.rows.specs.declared.Key.{Key}
use Rattle.rows.specs.declared.Trait.{Trait}
use Rattle.rows.specs.Memory.{Memory, memory, zeroed, open_limit, no_span, row_width, span_width, trait_width, row_used, span_used, span_at}
use Rattle.rows.specs.Memory.{loan_rows, loan_store, loan_strings, loan_objects, loan_traits, loan_names}
use Rattle.wire.specs.declared.Part.{Part}
use Rattle.wire.specs.declared.Part.TheVariants.{More, Whole}
use Rattle.wire.specs.declared.Size.{Size}
use Rattle.wire.specs.declared.Size.TheVariants.{Old, New}
use Rattle.wire.specs.declared.Shape.{Shape}
use Rattle.wire.specs.declared.Shape.TheVariants.{Object, Known, External, Inline}
use Rattle.wire.specs.U29.{part_of}
use Rattle.wire.specs.Word.{size_of, shape_of}
use Rattle.wire.specs.Big.{digit_of}
use Rattle.utf8.specs.States.{step_of}
use Rattle.format.specs.declared.Frame.{Frame}
use Rattle.format.specs.Decide.{Out, stop, give, lift, Width, width_of, Body, xml, date, array, bytes, raw, objects, dictionary, Kind, leaf, integer, double}
use Rattle.format.specs.Decide.{string, object, sized, kind_of, marker, closed, numbered}
use Rattle.format.specs.Decide.{integer_end, date_end, bodied, classed, object_class, vector_class, flagged, counted, key_end, grown, old_text, reserved, stored}
use Rattle.format.specs.Decide.{judged, text_end, entered, referred, trait_of, old_trait, named, trait_end, trait_holds, sealed_key, starred}
use Rattle.format.specs.Step.{Pairing, assoc, dynamics, Task, pairs_of, items_of, members_of, keys_of, values_of, strange, task_of, Use, for_string, for_key}
use Rattle.format.specs.Step.{for_class, for_external, for_name, for_vector, Text, xml_text, table_text, Word, integer_word, object_word, size_word, text_word}
use Rattle.format.specs.Step.{Number, double_bits, date_bits, Flag, raw_flag, objects_flag, dictionary_flag, Raw, byte_array, raw_vector, Mode, at_marker}
use Rattle.format.specs.Step.{at_word, at_number, at_flag, at_text, at_raw, astray, State, wait, over, on, broken, go, entry, pop, onward, keyed, naming}
use Rattle.format.specs.Step.{had, text_done, reserved_for, string_sized, roomy, texting, filling, opened, body_sized, object_shaped, worded, number_done}
use Rattle.format.specs.Step.{flag_done, raw_grown, begun, shown, on_part, act}
use Rattle.format.specs.Reading.{finished, refused}
use Rattle.format.specs.Refusals as refusals
pub use Rattle.format.specs.Limits.{asked, NewSize, NewShape, Enters, IsName, EndsTrait, There, by_text, by_number, by_none, Lacks, no_row, no_store, no_string, no_object}
pub use Rattle.format.specs.Limits.{no_trait, no_name}

-- ---- what a byte asks of the loans

-- byte b is a marker where as many values are open as can be
abbrev pub Deep : Mode → ℕ → List Frame → Type 0
Deep (at_marker k) b ts = (b ≤ 0x11) × (open_limit ≤ length ts)
Deep (at_word w left part) b ts = ⊥
Deep (at_number d left part) b ts = ⊥
Deep (at_flag f) b ts = ⊥
Deep (at_text x s left test) b ts = ⊥
Deep (at_raw r s left) b ts = ⊥
Deep astray b ts = ⊥

-- a string's size, by which it is there at once
abbrev SizeThere : Cursor → Size → Type 0
SizeThere c (Old i) = i < c.strings
SizeThere c (New n) = n ≡ 0

-- ---- what is refused

-- what byte b, the last of p bytes, may be refused with: number, told value and place; D says why with 9, and E why with 10 of a loan
pub data Refusal (D : Type 0) (E : ℕ → Type 0) (b p : ℕ) : ℕ → ℕ → ℕ → Type 0 where
  -- no marker
  unknown : {place : ℕ} → 0x11 < b → place ≡ p → Refusal D E b p refusals.bad_marker b place
  -- a reference to what isn't there; to what isn't finished
  absent : {i place : ℕ} → place ≡ p → Refusal D E b p refusals.no_entry i place
  unfinished : {i place : ℕ} → place ≡ p → Refusal D E b p refusals.open_object i place
  -- an externalizable object; a date of these bits; a text
  external : {place : ℕ} → place ≡ p → Refusal D E b p refusals.externalizable 0 place
  undated : {bits place : ℕ} → place ≡ p → Refusal D E b p refusals.bad_date bits place
  malformed : {place : ℕ} → place ≡ p → Refusal D E b p refusals.bad_text 0 place
  -- too many are open
  deep : {place : ℕ} → D → place ≡ p → Refusal D E b p refusals.too_deep 0 place
  -- a loan is full
  full : {loan place : ℕ} → E loan → place ≡ p → Refusal D E b p refusals.no_room loan place
  -- the state doesn't hold together
  astrays : Refusal D E b p refusals.lost 0 0

-- a decision
pub data Says (D : Type 0) (E : ℕ → Type 0) {S A : Type 0} (b p : ℕ) : Out S A → Type 0 where
  stops : {n told place : ℕ} → Refusal D E b p n told place → Says D E b p (stop n told place)
  goes : {a : A} {s : S} {d : Cursor} → d.at ≡ p → Says D E b p (give a s d)

-- a state after it
pub data Placed (D : Type 0) (E : ℕ → Type 0) (b p : ℕ) : State → Type 0 where
  waits : {x : Mode} {ts : List Frame} {c : Cursor} {m : Memory} → c.at ≡ p → Placed D E b p (wait x ts c m)
  finishes : {c : Cursor} {m : Memory} → c.at ≡ p → Placed D E b p (over (finished c m))
  declines : {n told place : ℕ} {m : Memory} (k : Memory) → Refusal D E b p n told place → m ≡ zeroed k → Placed D E b p (over (refused n told place m))

module _ {D : Type 0} {E : ℕ → Type 0} {b p : ℕ} where
  -- ---- decisions

  -- both cases of a test; with what it says; a decision on one loan
  says-cond : {S A : Type 0} {x y : Out S A} (t : Bool) → Says D E b p x → Says D E b p y → Says D E b p (cond t x y)
  says-cond true h k = h
  says-cond false h k = k

  says-test : {S A : Type 0} {x y : Out S A} (t : Bool) → (t ≡ true → Says D E b p x) → (t ≡ false → Says D E b p y) → Says D E b p (cond t x y)
  says-test true h k = h refl
  says-test false h k = k refl

  says-lift : {S A : Type 0} (f : S → Memory) {o : Out S A} → Says D E b p o → Says D E b p (lift f o)
  says-lift f (stops r) = stops r
  says-lift f (goes e) = goes e

  -- decisions that ask for no room
  ruleset saying = (says-cond, stops, goes, absent, unfinished, external, undated, malformed, astrays)

  module _ (c : Cursor) (e : c.at ≡ p) where
    pub says-closed : (row : ℕ) (R : List ℕ) → Says D E b p (closed row R c)
    unfolding closed
    says-closed row R = search saying

    pub says-numbered : (row : ℕ) (n : ℕ) (R : List ℕ) → Says D E b p (numbered row n R c)
    unfolding numbered
    says-numbered row n R = search saying

    pub says-integer : (row w : ℕ) (R : List ℕ) → Says D E b p (integer_end row w R c)
    unfolding integer_end
    says-integer row w R = says-numbered row _ R

    pub says-date : (row bits : ℕ) (R : List ℕ) → Says D E b p (date_end row bits R c)
    unfolding date_end
    says-date row bits R = search (saying, says-numbered)

    pub says-bodied : (row : ℕ) (s : Span) (R : List ℕ) → Says D E b p (bodied row s R c)
    unfolding bodied
    says-bodied row s R = search saying

    pub says-classed : (row mark : ℕ) (s : Span) (R : List ℕ) → Says D E b p (classed row mark s R c)
    unfolding classed
    says-classed row mark s R = search saying

    pub says-object : (row : ℕ) (t : Trait) (R : List ℕ) → Says D E b p (object_class row t R c)
    unfolding object_class
    says-object row t R = says-classed row _ _ R

    pub says-vector : (row : ℕ) (star : Bool) (s : Span) (R : List ℕ) → Says D E b p (vector_class row star s R c)
    unfolding vector_class
    says-vector row true s R = says-classed row _ _ R
    says-vector row false s R = says-classed row _ _ R

    pub says-flagged : (row flag : ℕ) (R : List ℕ) → Says D E b p (flagged row flag R c)
    unfolding flagged
    says-flagged row flag R = search saying

    pub says-counted : (row col done : ℕ) (R : List ℕ) → Says D E b p (counted row col done R c)
    unfolding counted
    says-counted row col done R = search saying

    pub says-key-end : (row done : ℕ) (R : List ℕ) → Says D E b p (key_end row done R c)
    unfolding key_end
    says-key-end row done R = search saying

    pub says-grown : (row : ℕ) (w : Width) (s : Span) (n : ℕ) (R : List ℕ) → Says D E b p (grown row w s n R c)
    unfolding grown
    says-grown row w s n R = search saying

    pub says-referred : (row i : ℕ) (O R : List ℕ) → Says D E b p (referred row i O R c)
    unfolding referred
    says-referred row i O R = search saying depth 10

    pub says-marker : (k : Key) (left : ℕ) (R : List ℕ) → (b ≤ 0x11 → left ≡ 0 → D) → (b ≤ 0x11 → length R / row_width ≤ c.rows → E loan_rows)
        → Says D E b p (marker k left b R c)
    unfolding marker
    says-marker k left R f g =
        says-cond (ltb (length R / row_width) c.rows) (stops astrays)
        (says-test (ltb 0x11 b) (λ i. stops (unknown (ltb-true 0x11 b i) e)) (λ i.
        says-test (eqb left 0) (λ j. stops (deep (f (ltb-false 0x11 b i) (eqb-true left 0 j)) e)) (λ j.
        says-test (leb (length R / row_width) c.rows) (λ l. stops (full (g (ltb-false 0x11 b i) (leb-true (length R / row_width) c.rows l)) e)) (λ l. goes e))))

    pub says-old-text : (i : ℕ) (S : List ℕ) → Says D E b p (old_text i S c)
    unfolding old_text
    says-old-text i S = search saying

    pub says-reserved : (n : ℕ) (B : List ℕ) → (length B < c.store + n → E loan_store) → Says D E b p (reserved n B c)
    unfolding reserved
    says-reserved n B f =
        says-cond (ltb (length B) c.store) (stops astrays)
        (says-test (ltb (length B) (c.store + n)) (λ l. stops (full (f (ltb-true (length B) (c.store + n) l)) e)) (λ l. goes e))

    pub says-stored : (s : Span) (n x : ℕ) (B : List ℕ) → Says D E b p (stored s n x B c)
    unfolding stored
    says-stored s n x B = search saying

    pub says-judged : (valid : Bool) → Says D E b p (judged valid c)
    unfolding judged
    says-judged valid = search saying

    pub says-text-end : (s : Span) (valid : Bool) (S : List ℕ) → (length S / span_width ≤ c.strings → E loan_strings) → Says D E b p (text_end s valid S c)
    unfolding text_end
    says-text-end s valid S f =
        says-cond (ltb (length S / span_width) c.strings) (stops astrays)
        (says-cond valid (says-test (leb (length S / span_width) c.strings) (λ l. stops (full (f (leb-true (length S / span_width) c.strings l)) e)) (λ l. goes e))
        (stops (malformed e)))

    pub says-entered : (row : ℕ) (O : List ℕ) → (length O ≤ c.objects → E loan_objects) → Says D E b p (entered row O c)
    unfolding entered
    says-entered row O f =
        says-cond (leb c.rows row) (stops astrays) (says-cond (ltb (length O) c.objects) (stops astrays)
        (says-test (leb (length O) c.objects) (λ l. stops (full (f (leb-true (length O) c.objects l)) e)) (λ l. goes e)))

    pub says-old_trait : (i : ℕ) (U : List ℕ) → Says D E b p (old_trait i U c)
    unfolding old_trait
    says-old_trait i U = search saying

    pub says-named : (s : Span) (N : List ℕ) → (length N / span_width ≤ c.names → E loan_names) → Says D E b p (named s N c)
    unfolding named
    says-named s N f =
        says-cond (ltb (length N / span_width) c.names) (stops astrays)
        (says-test (leb (length N / span_width) c.names) (λ l. stops (full (f (leb-true (length N / span_width) c.names l)) e)) (λ l. goes e))

    pub says_trait_end : (t : Trait) (U : List ℕ) → (length U / trait_width ≤ c.traits → E loan_traits) → Says D E b p (trait_end t U c)
    unfolding trait_end
    says_trait_end t U f =
        says-cond (ltb (length U / trait_width) c.traits) (stops astrays) (says-cond (not (trait_holds c t)) (stops astrays)
        (says-test (leb (length U / trait_width) c.traits) (λ l. stops (full (f (leb-true (length U / trait_width) c.traits l)) e)) (λ l. goes e)))

    pub says-sealed : (i : ℕ) (N : List ℕ) → Says D E b p (sealed_key i N c)
    unfolding sealed_key
    says-sealed i N = search saying

    pub says-starred : (s : Span) (B : List ℕ) → Says D E b p (starred s B c)
    unfolding starred
    says-starred s B = search saying

  -- ---- states

  placed_on : {A : Type 0} (o : Out Memory A) (m : Memory) (f : A → Cursor → Memory → State) → Says D E b p o
      → ((a : A) (d : Cursor) (m : Memory) → d.at ≡ p → Placed D E b p (f a d m)) → Placed D E b p (on o m f)
  placed_on o m f (stops r) g = declines m r refl
  placed_on o m f (goes e) g = g _ _ _ e

  -- a test of a decision, after which it goes on where it is
  placed-test : {S A : Type 0} (to : S → Memory) (m : Memory) (f : A → Cursor → Memory → State) (t : Bool) (x y : Out S A)
      → (t ≡ true → Placed D E b p (on (lift to x) m f)) → (t ≡ false → Placed D E b p (on (lift to y) m f)) → Placed D E b p (on (lift to (cond t x y)) m f)
  placed-test to m f true x y h k = h refl
  placed-test to m f false x y h k = k refl

  placed-broken : (m : Memory) → Placed D E b p (broken m)
  placed-broken m = declines m astrays refl

  ruleset placing = (placed_on, placed-broken, waits, says-lift)

  module _ (ts : List Frame) where
    placed-go : (k : Cursor → Memory → State) → ((c : Cursor) (m : Memory) → c.at ≡ p → Placed D E b p (k c m))
        → (t : Task) (c : Cursor) (m : Memory) → c.at ≡ p → Placed D E b p (go k ts t c m)
    unfolding go
    placed-go k g (pairs_of q) c m e = search placing
    placed-go k g (items_of i row zero done) c m e = search (placing, says-closed)
    placed-go k g (items_of i row (suc n) done) c m e = search placing
    placed-go k g (members_of row zero done first zero) c m e = search (placing, says-closed)
    placed-go k g (members_of row zero done first (suc y)) c m e = search placing
    placed-go k g (members_of row (suc n) done first y) c m e = search (placing, says-sealed)
    placed-go k g (keys_of row zero done) c m e = search (placing, says-closed)
    placed-go k g (keys_of row (suc n) done) c m e = search placing
    placed-go k g (values_of row n done) c m e = search placing
    placed-go k g strange c m e = search placing

  placed-entry : (f : Task → Cursor → Memory → State) → ((t : Task) (c : Cursor) (m : Memory) → c.at ≡ p → Placed D E b p (f t c m))
      → (t : Task) (c : Cursor) (m : Memory) → c.at ≡ p → Placed D E b p (entry t c m f)
  unfolding entry
  placed-entry f g (pairs_of (assoc row n done)) c m e = search (placing, says-counted)
  placed-entry f g (pairs_of (dynamics row done)) c m e = search (placing, says-counted)
  placed-entry f g (items_of i row n done) c m e = search (placing, says-counted)
  placed-entry f g (members_of row n done first y) c m e = search (placing, says-counted)
  placed-entry f g (keys_of row n done) c m e = search (placing, says-key-end)
  placed-entry f g (values_of row n done) c m e = search (placing, says-counted)
  placed-entry f g strange c m e = search placing

  placed-pop : (ts : List Frame) (c : Cursor) (m : Memory) → c.at ≡ p → Placed D E b p (pop ts c m)
  unfolding pop
  placed-pop [] c m e = finishes e
  placed-pop (f ∷ ts) c m e = placed-entry _ (placed-go ts (pop ts) (placed-pop ts)) (task_of f) c m e

  module _ (ts : List Frame) where
    placed-onward : (t : Task) (c : Cursor) (m : Memory) → c.at ≡ p → Placed D E b p (onward ts t c m)
    placed-onward = placed-go ts (pop ts) (placed-pop ts)

    placed-keyed : (q : Pairing) (s : Span) (n : ℕ) (c : Cursor) (m : Memory) → c.at ≡ p → Placed D E b p (keyed ts q s n c m)
    unfolding keyed
    placed-keyed (assoc row n done) s zero c m e = placed-onward _ c m e
    placed-keyed (dynamics row done) s zero c m e = search (placing, says-closed, placed-pop)
    placed-keyed (assoc row n done) s (suc k) c m e = search placing
    placed-keyed (dynamics row done) s (suc k) c m e = search placing

    placed-naming : (row : ℕ) (t : Trait) (n : ℕ) (c : Cursor) (m : Memory) → c.at ≡ p
        → (n ≡ 0 → length m.traits / trait_width ≤ c.traits → E loan_traits) → Placed D E b p (naming ts row t n c m)
    unfolding naming
    placed-naming row t zero c m e f = placed_on _ m _ (says-lift _ (says_trait_end c e t m.traits (f refl))) (λ x. placed-onward _)
    placed-naming row t (suc n) c m e f = search placing

    placed-had : (u : Use) (s : Span) (c : Cursor) (m : Memory) → c.at ≡ p
        → (EndsTrait u → (IsName u → c.names < length m.names / span_width) → length m.traits / trait_width ≤ c.traits → E loan_traits)
        → (IsName u → length m.names / span_width ≤ c.names → E loan_names) → Placed D E b p (had ts u s c m)
    unfolding had object_class classed named
    placed-had (for_string row) s c m e f g = search (placing, says-bodied, says-closed, placed-pop) depth 8
    placed-had (for_key q) s c m e f g = placed-keyed q s s.size c m e
    placed-had (for_class row n y) s c m e f g =
        placed-test _ m _ (row_used m.rows c row) _ _ (λ l. placed-naming row (trait_of s n y c) n c _ e (λ q. f q (λ z. absurd z))) (λ l. placed-broken m)
    placed-had for_external s c m e f g = declines m (external e) refl
    placed-had (for_name row t n) s c m e f g =
        placed-test _ m _ (ltb (length m.names / span_width) c.names) _ _ (λ l. placed-broken m) (λ l.
        placed-test _ m _ (leb (length m.names / span_width) c.names) _ _
        (λ i. declines m (full (g tt (leb-true (length m.names / span_width) c.names i)) e) refl) (λ i. placed-naming row t n _ _ e (λ q. f q (λ z. leb-false (length m.names / span_width) c.names i))))
    placed-had (for_vector row n) s c m e f g = search (placing, says-starred, says-vector, placed-onward) depth 8

    placed-text : (x : Text) (s : Span) (valid : Bool) (c : Cursor) (m : Memory) → c.at ≡ p
        → ((u : Use) → x ≡ table_text u → valid ≡ true → c.strings < length m.strings / span_width → EndsTrait u
        → (IsName u → c.names < length m.names / span_width) → length m.traits / trait_width ≤ c.traits → E loan_traits)
        → ((u : Use) → x ≡ table_text u → valid ≡ true → c.strings < length m.strings / span_width → IsName u
        → length m.names / span_width ≤ c.names → E loan_names)
        → ((u : Use) → x ≡ table_text u → valid ≡ true → length m.strings / span_width ≤ c.strings → E loan_strings) → Placed D E b p (text_done ts x s valid c m)
    unfolding text_done text_end
    placed-text (xml_text row) s valid c m e f g h = search (placing, says-judged, says-closed, placed-pop) depth 8
    placed-text (table_text u) s valid c m e f g h =
        placed-test _ m _ (ltb (length m.strings / span_width) c.strings) _ _ (λ l. placed-broken m) (λ l.
        placed-test _ m _ valid _ _ (λ v.
        placed-test _ m _ (leb (length m.strings / span_width) c.strings) _ _
        (λ i. declines m (full (h u refl v (leb-true (length m.strings / span_width) c.strings i)) e) refl)
        (λ i. let o = leb-false (length m.strings / span_width) c.strings i in placed-had u s _ _ e (f u refl v o) (g u refl v o)))
        (λ v. declines m (malformed e) refl))

    pub says_use : (u : Use) (s : Span) (c : Cursor) (m : Memory) → c.at ≡ p → Says D E b p (reserved_for u s m c)
    unfolding reserved_for
    says_use (for_string row) s c m e = search (says-lift, says-bodied)
    says_use (for_key q) s c m e = goes e
    says_use (for_class row n y) s c m e = goes e
    says_use for_external s c m e = goes e
    says_use (for_name row t n) s c m e = goes e
    says_use (for_vector row n) s c m e = goes e

    placed-string : (u : Use) (z : Size) (c : Cursor) (m : Memory) → c.at ≡ p
        → (SizeThere c z → EndsTrait u → (IsName u → c.names < length m.names / span_width) → length m.traits / trait_width ≤ c.traits → E loan_traits)
        → (SizeThere c z → IsName u → length m.names / span_width ≤ c.names → E loan_names)
        → (length m.store < c.store + asked (text_word u) z → E loan_store)
        → Placed D E b p (string_sized ts u z c m)
    unfolding string_sized old_text
    placed-string u (Old i) c m e f g h =
        placed-test _ m _ (ltb (length m.strings / span_width) c.strings) _ _ (λ l. placed-broken m) (λ l.
        placed-test _ m _ (leb c.strings i) _ _ (λ l. declines m (absent e) refl) (λ l.
        let o = leb-false c.strings i l in
        placed-test _ m _ (span_used c (span_at m.strings i)) _ _ (λ l. placed-had u (span_at m.strings i) c m e (f o) (g o)) (λ l. placed-broken m)))
    placed-string u (New zero) c m e f g h = placed-had u no_span c m e (f refl) (g refl)
    placed-string u (New (suc n)) c m e f g h =
        placed_on _ m _ (says-lift _ (says-reserved c e (suc n) m.store h)) (λ s d m e. placed_on _ m _ (says_use u s d m e) (λ x d m. waits))

    placed-room : (row n : ℕ) (f : Span → Cursor → Memory → State) (c : Cursor) (m : Memory) → c.at ≡ p → (length m.store < c.store + n → E loan_store)
        → ((s : Span) (d : Cursor) (m : Memory) → d.at ≡ p → Placed D E b p (f s d m)) → Placed D E b p (roomy row n c m f)
    unfolding roomy
    placed-room row zero f c m e h g = g no_span c m e
    placed-room row (suc n) f c m e h g =
        placed_on _ m _ (says-lift _ (says-reserved c e (suc n) m.store h)) (λ s d m e. placed_on _ m _ (says-lift _ (says-bodied d e row s m.rows)) (λ x. g s))

    placed-texting : (row : ℕ) (s : Span) (n : ℕ) (c : Cursor) (m : Memory) → c.at ≡ p → Placed D E b p (texting ts row s n c m)
    unfolding texting
    placed-texting row s zero c m e = search (placing, says-closed, placed-pop)
    placed-texting row s (suc n) c m e = search placing

    placed-filling : (r : Raw) (s : Span) (n : ℕ) (c : Cursor) (m : Memory) → c.at ≡ p → Placed D E b p (filling ts r s n c m)
    unfolding filling
    placed-filling r s zero c m e = search (placing, says-closed, placed-pop)
    placed-filling r s (suc n) c m e = search placing

    placed-opened : (row : ℕ) (body : Body) (n : ℕ) (c : Cursor) (m : Memory) → c.at ≡ p
        → (length m.store < c.store + asked (size_word row body) (New n) → E loan_store) → Placed D E b p (opened ts row body n c m)
    unfolding opened
    placed-opened row xml n c m e h = placed-room row n _ c m e h (λ s. placed-texting row s n)
    placed-opened row date n c m e h = search placing
    placed-opened row array n c m e h = search placing
    placed-opened row bytes n c m e h = placed-room row n _ c m e h (λ s. placed-filling (byte_array row) s n)
    placed-opened row (raw w) n c m e h = placed-room row (n * width_of w) _ c m e h (λ s d m. waits)
    placed-opened row objects n c m e h = search placing
    placed-opened row dictionary n c m e h = search placing

    placed-body : (row : ℕ) (body : Body) (z : Size) (c : Cursor) (m : Memory) → c.at ≡ p → (NewSize z → length m.objects ≤ c.objects → E loan_objects)
        → ((NewSize z → c.objects < length m.objects) → length m.store < c.store + asked (size_word row body) z → E loan_store)
        → Placed D E b p (body_sized ts row body z c m)
    unfolding body_sized entered
    placed-body row body (Old i) c m e f h = search (placing, says-referred, placed-pop)
    placed-body row body (New n) c m e f h =
        placed-test _ m _ (leb c.rows row) _ _ (λ l. placed-broken m) (λ l.
        placed-test _ m _ (ltb (length m.objects) c.objects) _ _ (λ l. placed-broken m) (λ l.
        placed-test _ m _ (leb (length m.objects) c.objects) _ _ (λ i. declines m (full (f tt (leb-true (length m.objects) c.objects i)) e) refl)
        (λ i. placed-opened row body n _ _ e (h (λ z. leb-false (length m.objects) c.objects i)))))

    placed-object : (row : ℕ) (z : Shape) (c : Cursor) (m : Memory) → c.at ≡ p → (NewShape z → length m.objects ≤ c.objects → E loan_objects)
        → Placed D E b p (object_shaped ts row z c m)
    unfolding object_shaped
    placed-object row (Object i) c m e f = search (placing, says-referred, placed-pop)
    placed-object row (Known i) c m e f =
        placed_on _ m _ (says-lift _ (says-entered c e row m.objects (f tt))) (λ x c m e. search (placing, says-old_trait, says-object, placed-onward) depth 8)
    placed-object row External c m e f = placed_on _ m _ (says-lift _ (says-entered c e row m.objects (f tt))) (λ x c m. waits)
    placed-object row (Inline n y) c m e f = placed_on _ m _ (says-lift _ (says-entered c e row m.objects (f tt))) (λ x c m. waits)

    placed-number : (d : Number) (bits : ℕ) (c : Cursor) (m : Memory) → c.at ≡ p → Placed D E b p (number_done ts d bits c m)
    unfolding number_done
    placed-number (double_bits row) bits c m e = search (placing, says-numbered, placed-pop)
    placed-number (date_bits row) bits c m e = search (placing, says-date, placed-pop)

    placed-flag : (f : Flag) (v : ℕ) (c : Cursor) (m : Memory) → c.at ≡ p → Placed D E b p (flag_done ts f v c m)
    unfolding flag_done
    placed-flag (raw_flag row w s) v c m e = search (placing, says-flagged, placed-filling)
    placed-flag (objects_flag row n) v c m e = search (placing, says-flagged)
    placed-flag (dictionary_flag row n) v c m e = search (placing, says-flagged, placed-onward)

    placed-begun : (row : ℕ) (k : Kind) (c : Cursor) (m : Memory) → c.at ≡ p → Placed D E b p (begun ts row k c m)
    unfolding begun
    placed-begun row leaf c m e = placed-pop ts c m e
    placed-begun row integer c m e = search placing
    placed-begun row double c m e = search placing
    placed-begun row string c m e = search placing
    placed-begun row object c m e = search placing
    placed-begun row (sized body) c m e = search placing

    placed-part : (x : Option Part) (more whole : ℕ → State) (m : Memory)
        → ((n : ℕ) → Placed D E b p (more n)) → ((n : ℕ) → x ≡ Some (Whole n) → Placed D E b p (whole n)) → Placed D E b p (on_part x m more whole)
    placed-part (Some (More n)) more whole m f g = f n
    placed-part (Some (Whole n)) more whole m f g = g n refl
    placed-part None more whole m f g = placed-broken m

  pub says-raw : (r : Raw) (s : Span) (n : ℕ) (c : Cursor) (m : Memory) → c.at ≡ p → Says D E b p (raw_grown r s n m c)
  unfolding raw_grown
  says-raw (byte_array row) s n c m e = goes e
  says-raw (raw_vector row w) s n c m e = search (says-lift, says-grown)

-- ---- a byte

module _ {b p : ℕ} (ts : List Frame) (c : Cursor) (m : Memory) (e : c.at ≡ p) where
  -- a word is whole
  placed-word : (w : Word) (left part n : ℕ) → part_of left part b ≡ Some (Whole n)
      → Placed (Deep (at_word w left part) b ts) (Lacks c m b (at_word w left part)) b p (worded ts w n c m)
  unfolding worded
  placed-word (integer_word row) left part n q = search (placing, says-integer, placed-pop)
  placed-word (object_word row) left part n q = placed-object ts row (shape_of n) c m e (no_object q)
  placed-word (size_word row body) left part n q = placed-body ts row body (size_of n) c m e (no_object q) (no_store q)
  placed-word (text_word u) left part n q =
      placed-string ts u (size_of n) c m e (λ h. no_trait (there (size_of n) refl h)) (λ h. no_name (there (size_of n) refl h)) (no_store q (λ z. absurd z))
    where
      there : (z : Size) → size_of n ≡ z → SizeThere c z → There c m b (at_word (text_word u) left part) u
      there (Old i) k h = by_number q k h
      there (New i) k h = by_none q (k ∙ ap (λ (j : ℕ). New j) h)

  -- a text's last byte
  placed-last : (x : Text) (s : Span) (test : ℕ) (B : List ℕ)
      → Placed (Deep (at_text x s zero test) b ts) (Lacks c m b (at_text x s zero test)) b p
      (text_done ts x s (eqb (step_of test b) 0) c (memory m.rows B m.strings m.objects m.traits m.names))
  placed-last x s test B =
      placed-text ts x s (eqb (step_of test b) 0) c (memory m.rows B m.strings m.objects m.traits m.names) e
      (λ u q v o i j l. rw q (no_trait (by_text (valid v) o) i j l)) (λ u q v o i l. rw q (no_name (by_text (valid v) o) i l)) (λ u q v l. rw q (no_string (valid v) l))
    where
      valid : eqb (step_of test b) 0 ≡ true → step_of test b ≡ 0
      valid v = eqb-true (step_of test b) 0 v

  -- what byte b makes of a mode, the cursor already past it
  pub reasons_act : (x : Mode) → Placed (Deep x b ts) (Lacks c m b x) b p (act x b ts c m)
  unfolding act stored
  reasons_act (at_marker k) =
      placed_on _ m _ (says-lift _ (says-marker c e (shown k) (open_limit - length ts) m.rows (λ h q. (h, omega arith)) no_row))
      (λ row d m e. placed-begun ts row (kind_of b) d m e)
  reasons_act (at_word w left n) = placed-part ts (part_of left n b) _ _ m (λ n. waits e) (λ v q. placed-word w left n v q)
  reasons_act (at_number d left n) = placed-part ts (digit_of left n b) _ _ m (λ n. waits e) (λ v q. placed-number ts d v c m e)
  reasons_act (at_flag f) = placed-flag ts f b c m e
  reasons_act (at_text x s zero t) =
      placed-test _ m _ (ltb (length m.store) c.store) _ _ (λ l. placed-broken m) (λ l.
      placed-test _ m _ (leb s.size zero) _ _ (λ l. placed-broken m) (λ l.
      placed-test _ m _ (span_used c s) _ _ (λ l. placed-last x s t _) (λ l. placed-broken m)))
  reasons_act (at_text x s (suc n) t) = search (placing, says-stored) depth 8
  reasons_act (at_raw r s n) = search (placing, says-stored, says-raw, placed-filling) depth 10
  reasons_act astray = placed-broken m
