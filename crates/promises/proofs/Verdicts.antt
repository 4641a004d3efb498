-- What a decision makes of a state whose head holds together: it refuses by another number than 12; or what it looks up strays, and it is 12; or it gives a result,
-- and what is used still lies in the loans.
use mathlib.Core.Path.{◌≡◌, refl}
use mathlib.Core.Bool.{Bool, true, false, cond, not}
use mathlib.Core.List.{List, [], ◌∷◌}
use Prim.Native.Nat.{ℕ, ◌+◌, ◌*◌, ◌-◌, ◌/◌, ◌≤◌, ◌<◌}
use native.Mathlib.Omega.{arith}
use borrow.Author.Tests.{not-true, not-false, leb-true, leb-false, ltb-true, ltb-false, lt-ltb, le-ltb, le-leb, lt-leb}
use lib.Dec.{T, leb, ltb, eqb}
use lib.ListN.{length, get_or, length-set}
use lib.Seq.{sets, length-sets}
use Rattle.rows.specs.declared.Cursor.{Cursor}
use Rattle.rows.specs.declared.Span.{Span}
use Rattle.rows.specs.declared.Key.{Key}
use Rattle.rows.specs.declared.Trait.{Trait}
use Rattle.rows.specs.Memory.{Memory, memory, row_width, span_width, trait_width, col_end, col, row_used, span_at, span_used}
use Rattle.wire.specs.Date.{refused_date}
use Rattle.format.specs.Decide.{Out, stop, give, refuse, lost, Width, trait_at}
use Rattle.format.specs.Decide.{new_row, marker, closed, numbered, integer_end, date_end, bodied, classed, object_class, vector_class, flagged, counted, key_end, grown}
use Rattle.format.specs.Decide.{old_text, reserved, stored, judged, text_end, entered, referred, trait_holds, old_trait, named, trait_end, sealed_key, starred}
use Rattle.format.specs.Together.{TraitIn, ObjectIn, NameIn}
use Rattle.format.proofs.Tests.{on_bool, both, clash}
use Rattle.format.proofs.Lists.{Kept, kept_sets, sets-at, last_or}
use Rattle.format.proofs.Used.{RowIn, SpanIn, Grows, grows_same, row_up}
use Rattle.format.specs.Refusals as refusals

-- ---- what a step keeps

-- no more is used than is lent
pub record Room (c : Cursor) (m : Memory) : Type 0 where
  pub rows : c.rows ≤ length m.rows / row_width
  pub store : c.store ≤ length m.store
  pub strings : c.strings ≤ length m.strings / span_width
  pub objects : c.objects ≤ length m.objects
  pub traits : c.traits ≤ length m.traits / trait_width
  pub names : c.names ≤ length m.names / span_width

-- where a step begins, and what is known where a lookup of it strays
pub record Watch : Type 1 where
  pub stray : Type 0
  pub from : Cursor
  pub base : Memory

-- since the beginning no less is used, and a used name has a used span if it had one then or wasn't used
pub record Sits (w : Watch) (c : Cursor) (m : Memory) : Type 0 where
  pub room : Room c m
  pub since : Grows w.from c
  pub names : (i : ℕ) → (i < w.from.names → SpanIn (span_at w.base.names i) w.from) → i < c.names → SpanIn (span_at m.names i) c

-- since the beginning no name and no trait was added, and no room for bytes was taken
abbrev pub Still : Watch → Cursor → Memory → Type 0
Still w c m =
    (((c.names ≡ w.from.names) × (c.traits ≡ w.from.traits)) × (c.store ≡ w.from.store))
    × ((m.names ≡ w.base.names) × (m.traits ≡ w.base.traits))

-- a decision: it stops by another number than 12, or by 12 and a lookup strays, or it gives Q; `to` puts the loan that it wrote into the memory
pub data Sure (w : Watch) {S A : Type 0} (to : S → Memory) (Q : A → Cursor → Memory → Type 0) (c : Cursor) : Out S A → Type 0 where
  stops : {n told place : ℕ} → T (not (eqb n refusals.lost)) → Sure w to Q c (stop n told place)
  strays : w.stray → Sure w to Q c (stop refusals.lost 0 0)
  goes : {a : A} {s : S} {d : Cursor} → Sits w d (to s) → Grows c d → Q a d (to s) → Sure w to Q c (give a s d)

-- the memory with one loan written: the rows are
abbrev pub to_rows : Memory → List ℕ → Memory
to_rows m R = memory R m.store m.strings m.objects m.traits m.names

-- the store is
abbrev pub to_store : Memory → List ℕ → Memory
to_store m B = memory m.rows B m.strings m.objects m.traits m.names

-- the strings are
abbrev pub to_strings : Memory → List ℕ → Memory
to_strings m L = memory m.rows m.store L m.objects m.traits m.names

-- the objects are
abbrev pub to_objects : Memory → List ℕ → Memory
to_objects m O = memory m.rows m.store m.strings O m.traits m.names

-- the traits are
abbrev pub to_traits : Memory → List ℕ → Memory
to_traits m U = memory m.rows m.store m.strings m.objects U m.names

-- the names are
abbrev pub to_names : Memory → List ℕ → Memory
to_names m N = memory m.rows m.store m.strings m.objects m.traits N

-- none is
abbrev pub to_same : Memory → Unit {0} → Memory
to_same m x = m

-- ---- what a decision gives

-- nothing is asked
abbrev pub Any : {A : Type 0} → A → Cursor → Memory → Type 0
Any a d m = Unit

-- an entry of a row was counted: the row is used, and the entries before have rows
abbrev pub Counting : ℕ → ℕ → Cursor → Unit {0} → Cursor → Memory → Type 0
Counting row done c x d k = RowIn row c × (done < c.rows)

-- a byte is stored: names, traits and strings stay
abbrev pub Storing : Watch → Cursor → Memory → Unit {0} → Cursor → Memory → Type 0
Storing w c m x d k = (Still w c m → Still w d k) × ((d.strings ≡ c.strings) × (k.strings ≡ m.strings))

-- a text enters the strings: it is valid, and there was room
abbrev pub Texting : Watch → Bool → Cursor → Memory → Span → Cursor → Memory → Type 0
Texting w valid c m s d k = (SpanIn s d × (Still w c m → Still w d k)) × ((valid ≡ true) × (c.strings < length m.strings / span_width))

-- a string by number: it is there, and its span is used
abbrev pub Olding : Watch → ℕ → Cursor → Memory → Span → Cursor → Memory → Type 0
Olding w i c m s d k = (SpanIn s d × (Still w c m → Still w d k)) × ((i < c.strings) × SpanIn (span_at m.strings i) c)

-- an object is entered: there was room
abbrev pub Entering : Watch → Cursor → Memory → Unit {0} → Cursor → Memory → Type 0
Entering w c m x d k = (Still w c m → Still w d k) × (c.objects < length m.objects)

-- a trait by number: it is there, and fits what is used
abbrev pub Knowing : ℕ → Cursor → Memory → Trait → Cursor → Memory → Type 0
Knowing i c m t d k = ((i < c.traits) × (t ≡ trait_at m.traits i)) × TraitIn t c

-- a name is added: there was room, and the traits stay
abbrev pub Naming : Cursor → Memory → Span → Cursor → Memory → Type 0
Naming c m s d k = ((d.names ≡ c.names + 1) × (c.names < length m.names / span_width)) × ((d.traits ≡ c.traits) × (k.traits ≡ m.traits))

-- a trait is added: it fits what is used, and there was room
abbrev pub Making : Trait → Cursor → Memory → Unit {0} → Cursor → Memory → Type 0
Making t c m x d k = TraitIn t c × (c.traits < length m.traits / trait_width)

-- ---- tests

module _ {w : Watch} {S A : Type 0} {Q : A → Cursor → Memory → Type 0} {c : Cursor} {to : S → Memory} {x : Out S A} where
  -- only one side can be
  sure_yes : (t : Bool) → t ≡ true → Sure w to Q c x → Sure w to Q c (cond t x lost)
  sure_yes t e h = rw e h

  -- the other
  sure_no : (t : Bool) → t ≡ false → Sure w to Q c x → Sure w to Q c (cond t lost x)
  sure_no t e h = rw e h

  -- a lookup, which can stray
  sure_in : (t : Bool) → (t ≡ false → w.stray) → (t ≡ true → Sure w to Q c x) → Sure w to Q c (cond t x lost)
  sure_in t f h = on_bool t (λ e. rw e (h e)) (λ e. rw e (strays (f e)))

  -- one that is tested the other way
  sure_out : (t : Bool) → (t ≡ true → w.stray) → (t ≡ false → Sure w to Q c x) → Sure w to Q c (cond t lost x)
  sure_out t f h = on_bool t (λ e. rw e (strays (f e))) (λ e. rw e (h e))

module _ {w : Watch} {S A : Type 0} {Q : A → Cursor → Memory → Type 0} {c : Cursor} {to : S → Memory} {x y : Out S A} where
  -- either can
  sure_cond : (t : Bool) → (t ≡ true → Sure w to Q c x) → (t ≡ false → Sure w to Q c y) → Sure w to Q c (cond t x y)
  sure_cond t h k = on_bool t (λ e. rw e (h e)) (λ e. rw e (k e))

  -- by a number
  sure_leb : (a b : ℕ) → (a ≤ b → Sure w to Q c x) → (b < a → Sure w to Q c y) → Sure w to Q c (cond (leb a b) x y)
  sure_leb a b h k = on_bool (leb a b) (λ e. rw e (h (leb-true a b e))) (λ e. rw e (k (leb-false a b e)))

  -- by a number that is less
  sure_ltb : (a b : ℕ) → Sure w to Q c x → (b ≤ a → Sure w to Q c y) → Sure w to Q c (cond (ltb a b) x y)
  sure_ltb a b h k = on_bool (ltb a b) (λ e. rw e h) (λ e. rw e (k (ltb-false a b e)))

-- a used row is lent
pub room_row : {c : Cursor} {m : Memory} → Room c m → (row : ℕ) → RowIn row c → row_used m.rows c row ≡ true
room_row {c} {m} h row l = rw (lt-ltb row c.rows l, le-leb c.rows (length m.rows / row_width) h.rows)

-- a span that fails its test isn't used
span-out : (s : Span) (c : Cursor) → span_used c s ≡ false → SpanIn s c → ⊥
span-out s c e l = let p = leb-false (s.begin + s.size) c.store e in omega arith

-- a trait that fits what is used passes its test
pub trait-holds : (t : Trait) (c : Cursor) → TraitIn t c → trait_holds c t ≡ true
unfolding trait_holds
trait-holds t c (l, f) = rw (le-leb _ _ l, le-leb _ _ f)

-- and one that passes it fits
pub trait_held : (t : Trait) (c : Cursor) → trait_holds c t ≡ true → TraitIn t c
unfolding trait_holds
trait_held t c e = let (a, b) = both (leb (t.begin + t.size) c.store) (leb (t.first + t.count) c.names) e in (leb-true _ _ a, leb-true _ _ b)

-- ---- decisions

module _ {w : Watch} {c : Cursor} {m : Memory} (h : Sits w c m) where
  -- the rows change
  sits_rows : (R : List ℕ) → length R ≡ length m.rows → Sits w c (memory R m.store m.strings m.objects m.traits m.names)
  sits_rows R e = record { room = (let r = h.room in omega arith); since = h.since; names = h.names }

  -- a row that was used at the beginning is lent
  used-row : (row : ℕ) → RowIn row w.from → row_used m.rows c row ≡ true
  used-row row l = room_row h.room row (row_up h.since row l)

  -- a name that had a used span still has
  pub name-up : (i : ℕ) → NameIn i w.from w.base → NameIn i c m
  name-up i (l, s) = let g = h.since in let k : i < c.names = omega arith in (k, h.names i (λ o. s) k)

  -- a row is changed
  changed : {R : List ℕ} → length R ≡ length m.rows → Sure w (to_rows m) Any c (give (tt {0}) R c)
  changed {R} e = goes (sits_rows R e) (grows_same c) tt

  -- a row ends
  pub sure_closed : (row : ℕ) → RowIn row w.from → Sure w (to_rows m) Any c (closed row m.rows c)
  unfolding closed
  sure_closed row l = sure_yes (row_used m.rows c row) (used-row row l) (changed (simp length-set))

  -- its number is whole
  pub sure_numbered : (row n : ℕ) → RowIn row w.from → Sure w (to_rows m) Any c (numbered row n m.rows c)
  unfolding numbered
  sure_numbered row n l = sure_yes (row_used m.rows c row) (used-row row l) (changed (simp length-set))

  -- an integer ends
  pub sure_integer : (row n : ℕ) → RowIn row w.from → Sure w (to_rows m) Any c (integer_end row n m.rows c)
  unfolding integer_end
  sure_integer row n l = sure_numbered row _ l

  -- a date ends
  pub sure_date : (row bits : ℕ) → RowIn row w.from → Sure w (to_rows m) Any c (date_end row bits m.rows c)
  unfolding date_end
  sure_date row bits l = sure_yes (row_used m.rows c row) (used-row row l) (of (refused_date bits))
    where
      of : (t : Bool) → Sure w (to_rows m) Any c (cond t (refuse refusals.bad_date bits c) (numbered row bits m.rows c))
      of true = stops tt
      of false = sure_numbered row bits l

  -- a row has a body
  pub sure_bodied : (row : ℕ) (s : Span) → RowIn row w.from → Sure w (to_rows m) Any c (bodied row s m.rows c)
  unfolding bodied
  sure_bodied row s l = sure_yes (row_used m.rows c row) (used-row row l) (changed (simp length-set))

  -- a row has a class
  sure_classed : (row mark : ℕ) (s : Span) → RowIn row w.from → Sure w (to_rows m) Any c (classed row mark s m.rows c)
  unfolding classed
  sure_classed row mark s l = sure_yes (row_used m.rows c row) (used-row row l) (changed (simp length-set))

  -- an object
  pub sure_object : (row : ℕ) (t : Trait) → RowIn row w.from → Sure w (to_rows m) Any c (object_class row t m.rows c)
  unfolding object_class
  sure_object row t l = sure_classed row _ _ l

  -- a vector
  pub sure_vector : (row : ℕ) (star : Bool) (s : Span) → RowIn row w.from → Sure w (to_rows m) Any c (vector_class row star s m.rows c)
  unfolding vector_class
  sure_vector row true s l = sure_classed row _ _ l
  sure_vector row false s l = sure_classed row _ _ l

  -- a row has a flag
  pub sure_flagged : (row flag : ℕ) → RowIn row w.from → Sure w (to_rows m) Any c (flagged row flag m.rows c)
  unfolding flagged
  sure_flagged row flag l = sure_yes (row_used m.rows c row) (used-row row l) (changed (simp length-set))

  -- a raw vector grows
  pub sure_grown : (row : ℕ) (z : Width) (s : Span) (n : ℕ) → RowIn row w.from → Sure w (to_rows m) Any c (grown row z s n m.rows c)
  unfolding grown
  sure_grown row z s n l = sure_yes (row_used m.rows c row) (used-row row l) (changed (simp length-set))

  -- a row that passes its test is used
  row-used : (row : ℕ) → row_used m.rows c row ≡ true → RowIn row c
  row-used row e = ltb-true row c.rows (both (ltb row c.rows) (leb c.rows (length m.rows / row_width)) e).0

  -- one that doesn't isn't
  row_unused : (row : ℕ) → row_used m.rows c row ≡ false → RowIn row c → ⊥
  row_unused row e l = let f = room_row h.room row l in clash cc

  -- an entry is counted, or its row or the entries before stray
  pub sure_counted : (row col done : ℕ) → ((RowIn row c × (done < c.rows) → ⊥) → w.stray)
      → Sure w (to_rows m) (Counting row done c) c (counted row col done m.rows c)
  unfolding counted
  sure_counted row col done f =
      sure_out (leb c.rows done) (λ e. f (λ (l, k). absurd (omega (arith, leb-true)))) (λ e.
      sure_in (row_used m.rows c row) (λ g. f (λ (l, k). row_unused row g l)) (λ g.
      goes (sits_rows _ (simp length-set)) (grows_same c) (row-used row g, leb-false _ _ e)))

  -- a dictionary's key ends, or its row or the pairs before stray
  pub sure_key-end : (row done : ℕ) → ((RowIn row c × (done < c.rows) → ⊥) → w.stray)
      → Sure w (to_same m) (Counting row done c) c (key_end row done m.rows c)
  unfolding key_end
  sure_key-end row done f =
      sure_out (leb c.rows done) (λ e. f (λ (l, k). absurd (omega (arith, leb-true)))) (λ e.
      sure_in (row_used m.rows c row) (λ g. f (λ (l, k). row_unused row g l)) (λ g. goes h (grows_same c) (row-used row g, leb-false _ _ e)))

  -- an object by number: it is referred to, or its row or the row's end strays
  pub sure_referred : (row i : ℕ) → RowIn row w.from → (i < c.objects → (ObjectIn i c m → ⊥) → w.stray)
      → Sure w (to_rows m) Any c (referred row i m.objects m.rows c)
  unfolding referred
  sure_referred row i l f =
      sure_no (ltb (length m.objects) c.objects) (le-ltb (length m.objects) c.objects h.room.objects)
      (sure_leb c.objects i (λ g. stops tt) (λ g.
      let r = get_or m.objects i 0 in
      sure_out (not (row_used m.rows c r)) (λ e. f g (λ (u, v). row_unused r (not-true (row_used m.rows c r) e) u)) (λ e.
      sure_out (ltb c.rows (col m.rows r col_end)) (λ o. f g (λ (u, v). absurd (let p = ltb-true c.rows (col m.rows r col_end) o in omega arith))) (λ o.
      sure_cond (eqb (col m.rows r col_end) 0) (λ p. stops tt)
      (λ p. sure_yes (row_used m.rows c row) (used-row row l) (changed (simp length-set)))))))

  -- a marker adds a row
  pub sure_marker : (k : Key) (left b : ℕ) → Sure w (to_rows m) Any c (marker k left b m.rows c)
  unfolding marker
  sure_marker k left b =
      sure_no (ltb (length m.rows / row_width) c.rows) (le-ltb (length m.rows / row_width) c.rows h.room.rows)
      (sure_cond (ltb 0x11 b) (λ e. stops tt) (λ e. sure_cond (eqb left 0) (λ o. stops tt) (λ o.
      sure_leb (length m.rows / row_width) c.rows (λ f. stops tt) (λ f.
      let e = length-sets m.rows (c.rows * row_width) (new_row b k c.rows) in
      let r = h.room in
      let g = h.since in
      goes (record { room = omega arith; since = omega arith; names = h.names }) (omega arith) tt))))

  -- a string by number: it is there, or its span strays
  pub sure_old-text : (i : ℕ) → (i < c.strings → (SpanIn (span_at m.strings i) c → ⊥) → w.stray) → Sure w (to_same m) (Olding w i c m) c (old_text i m.strings c)
  unfolding old_text
  sure_old-text i f =
      sure_no (ltb (length m.strings / span_width) c.strings) (le-ltb (length m.strings / span_width) c.strings h.room.strings)
      (sure_leb c.strings i (λ g. stops tt) (λ g.
      sure_in (span_used c (span_at m.strings i)) (λ e. f g (span-out (span_at m.strings i) c e)) (λ e.
      let l = leb-true _ _ e in goes h (grows_same c) ((l, λ b. b), (g, l)))))

  -- room is reserved
  pub sure_reserved : (n : ℕ) → Sure w (to_same m) Any c (reserved n m.store c)
  unfolding reserved
  sure_reserved n =
      sure_no (ltb (length m.store) c.store) (le-ltb (length m.store) c.store h.room.store)
      (sure_ltb (length m.store) (c.store + n) (stops tt) (λ f.
      let r = h.room in
      let g = h.since in
      goes (record { room = omega arith; since = omega arith; names = λ i a l. (let q = h.names i a l in omega arith) }) (omega arith) tt))

  -- a byte of a span
  pub sure_stored : (s : Span) (n b : ℕ) → SpanIn s c → n < s.size → Sure w (to_store m) (Storing w c m) c (stored s n b m.store c)
  unfolding stored
  sure_stored s n b l f =
      sure_no (ltb (length m.store) c.store) (le-ltb (length m.store) c.store h.room.store)
      (sure_no (leb s.size n) (lt-leb s.size n f) (sure_yes _ (le-leb _ _ l)
      (let e = length-set m.store (s.begin + (s.size - (n + 1))) b in
      let r = h.room in
      goes (record { room = omega arith; since = h.since; names = h.names }) (grows_same c) (λ b. b, (refl, refl)))))

  -- a text is judged
  pub sure_judged : (valid : Bool) → Sure w (to_same m) Any c (judged valid c)
  unfolding judged
  sure_judged valid = sure_cond valid (λ e. goes h (grows_same c) tt) (λ e. stops tt)

  -- a text enters the strings
  pub sure_text-end : (s : Span) (valid : Bool) → SpanIn s c → Sure w (to_strings m) (Texting w valid c m) c (text_end s valid m.strings c)
  unfolding text_end
  sure_text-end s valid l =
      sure_no (ltb (length m.strings / span_width) c.strings) (le-ltb (length m.strings / span_width) c.strings h.room.strings)
      (sure_cond valid (λ v. sure_leb (length m.strings / span_width) c.strings (λ f. stops tt) (λ f.
      let e = length-sets m.strings (c.strings * span_width) (s.begin ∷ s.size ∷ []) in
      let r = h.room in
      let g = h.since in
      goes (record { room = omega arith; since = omega arith; names = h.names }) (omega arith) ((l, λ b. b), (v, f)))) (λ v. stops tt))

  -- a row enters the objects
  pub sure_entered : (row : ℕ) → RowIn row w.from → Sure w (to_objects m) (Entering w c m) c (entered row m.objects c)
  unfolding entered
  sure_entered row l =
      sure_no (leb c.rows row) (lt-leb c.rows row (row_up h.since row l))
      (sure_no (ltb (length m.objects) c.objects) (le-ltb (length m.objects) c.objects h.room.objects)
      (sure_leb (length m.objects) c.objects (λ f. stops tt) (λ f.
      let e = length-set m.objects c.objects row in
      let r = h.room in
      let g = h.since in
      goes (record { room = omega arith; since = omega arith; names = h.names }) (omega arith) (λ b. b, f))))

  -- a trait by number: it is there, or its class or its names stray
  pub sure_old_trait : (i : ℕ) → (i < c.traits → (TraitIn (trait_at m.traits i) c → ⊥) → w.stray)
      → Sure w (to_same m) (Knowing i c m) c (old_trait i m.traits c)
  unfolding old_trait
  sure_old_trait i f =
      sure_no (ltb (length m.traits / trait_width) c.traits) (le-ltb (length m.traits / trait_width) c.traits h.room.traits)
      (sure_leb c.traits i (λ g. stops tt) (λ g.
      sure_in (trait_holds c (trait_at m.traits i)) (λ e. f g (λ l. (let p = trait-holds (trait_at m.traits i) c l in clash cc)))
      (λ e. goes h (grows_same c) ((g, refl), trait_held (trait_at m.traits i) c e))))

  -- a trait is entered, or its class or its names stray
  pub sure_trait_end : (t : Trait) → ((TraitIn t c → ⊥) → w.stray) → Sure w (to_traits m) (Making t c m) c (trait_end t m.traits c)
  unfolding trait_end
  sure_trait_end t f =
      sure_no (ltb (length m.traits / trait_width) c.traits) (le-ltb (length m.traits / trait_width) c.traits h.room.traits)
      (sure_out (not (trait_holds c t)) (λ e. f (λ l. (let p = trait-holds t c l in let q = not-true (trait_holds c t) e in clash cc))) (λ e.
      sure_leb (length m.traits / trait_width) c.traits (λ o. stops tt) (λ o.
      let p = length-sets m.traits (c.traits * trait_width) (t.begin ∷ t.size ∷ t.dynamic ∷ t.first ∷ t.count ∷ []) in
      let r = h.room in
      let g = h.since in
      goes (record { room = omega arith; since = omega arith; names = h.names }) (omega arith) (trait_held t c (not-false (trait_holds c t) e), o))))

  -- a name more has the span that is given
  pub sure_named : (s : Span) → SpanIn s c → Sure w (to_names m) (Naming c m) c (named s m.names c)
  unfolding named
  sure_named s l =
      sure_no (ltb (length m.names / span_width) c.names) (le-ltb (length m.names / span_width) c.names h.room.names)
      (sure_leb (length m.names / span_width) c.names (λ f. stops tt) (λ f.
      let e = length-sets m.names (c.names * span_width) (s.begin ∷ s.size ∷ []) in
      let r = h.room in
      let g = h.since in
      goes (record {
        room = omega arith;
        since = omega arith;
        names = λ i a. last_or c.names i (λ (i : ℕ). SpanIn (span_at N i) c) (old i a) (new (omega arith));
      }) (omega arith) ((refl, f), (refl, refl))))
    where
      N : List ℕ
      N = sets m.names (c.names * span_width) (s.begin ∷ s.size ∷ [])

      same : Kept (c.names * span_width) m.names N
      same = kept_sets (c.names * span_width) (c.names * span_width) (s.begin ∷ s.size ∷ []) m.names (omega arith)

      old : (i : ℕ) → (i < w.from.names → SpanIn (span_at w.base.names i) w.from) → i < c.names → SpanIn (span_at N i) c
      old i a o = rw (same (i * span_width) (omega arith), same (i * span_width + 1) (omega arith)) (h.names i a o)

      new : c.names * span_width + 2 ≤ length m.names → SpanIn (span_at N c.names) c
      new f =
          let p : get_or N (c.names * span_width + 0) 0 ≡ s.begin = sets-at (s.begin ∷ s.size ∷ []) m.names (c.names * span_width) 0 (omega arith) f in
          let q : get_or N (c.names * span_width + 1) 0 ≡ s.size = sets-at (s.begin ∷ s.size ∷ []) m.names (c.names * span_width) 1 (omega arith) f in
          let e : c.names * span_width + 0 ≡ c.names * span_width = omega arith in
          rw (rw e at p, q) l

  -- a name is a key, or it strays
  pub sure_sealed : (i : ℕ) → ((NameIn i c m → ⊥) → w.stray) → Sure w (to_same m) Any c (sealed_key i m.names c)
  unfolding sealed_key
  sure_sealed i f =
      sure_no (ltb (length m.names / span_width) c.names) (le-ltb (length m.names / span_width) c.names h.room.names)
      (sure_out (leb c.names i) (λ e. f (λ (l, s). absurd (let p = leb-true c.names i e in omega arith))) (λ e.
      sure_in (span_used c (span_at m.names i)) (λ o. f (λ (l, s). span-out (span_at m.names i) c o s)) (λ o. goes h (grows_same c) tt)))

  -- a vector's class is looked at
  pub sure_starred : (s : Span) → SpanIn s c → Sure w (to_same m) Any c (starred s m.store c)
  unfolding starred
  sure_starred s l =
      sure_cond (eqb s.size 1) (λ e. sure_no (ltb (length m.store) c.store) (le-ltb (length m.store) c.store h.room.store)
      (sure_yes _ (le-leb _ _ l) (goes h (grows_same c) tt))) (λ e. goes h (grows_same c) tt)
