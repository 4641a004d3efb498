-- Which refusal comes first, on any waiting state whose head holds together: 11 before the byte is looked at; at a marker 3, 9, then 10 for rows; at a literal object
-- the objects' room, then the store's; at a text's last byte 8, then the strings' room.
use Rattle.std.proofs.Common.{Some}
use mathlib.Core.Path.{◌≡◌, refl, ap, ◌∙◌}
use mathlib.Core.Bool.{true, false}
use mathlib.Core.Logic.{◌≢◌}
use mathlib.Core.List.{List, ◌∷◌}
use Prim.Native.Nat.{ℕ, zero, suc, ◌+◌, ◌*◌, ◌-◌, ◌/◌, ◌^◌, ◌≤◌, ◌<◌}
use native.Mathlib.Nat.{add-zero, le_refl}
use native.Mathlib.Omega.{arith}
use borrow.Author.Tests.{lt-ltb, le-ltb, le-leb, lt-leb, ne_eqb}
use lib.Dec.{T, ltb, eqb}
use lib.ListN.{length, set, length-set}
use Rattle.rows.specs.declared.Cursor.{Cursor}
use Rattle.rows.specs.declared.Span.{Span}
use Rattle.rows.specs.declared.Key.{Key}
use Rattle.rows.specs.Memory.{Memory, memory, zeroed, message_limit, open_limit, row_width, span_width, loan_rows, loan_store, loan_strings, loan_objects}
use Rattle.wire.specs.declared.Part.TheVariants.{Whole}
use Rattle.wire.specs.declared.Size.{Size}
use Rattle.wire.specs.declared.Size.TheVariants.{Old, New}
use Rattle.wire.specs.declared.Shape.{Shape}
use Rattle.wire.specs.declared.Shape.TheVariants.{Object, Known, External, Inline}
use Rattle.wire.specs.U29.{part_of}
use Rattle.wire.specs.Word.{size_of, shape_of}
use Rattle.utf8.specs.States.{step_of}
use Rattle.format.specs.declared.Answer.TheVariants.{Refused}
use Rattle.format.specs.declared.Frame.{Frame}
use Rattle.format.specs.Reading.{refused, taken}
use Rattle.format.specs.Decide.{give, refuse, objects_to, marker, entered, reserved, stored, text_end, judged, width_of, xml, date, array, bytes, raw, objects, dictionary, Body}
use Rattle.format.specs.Step.{Word, integer_word, object_word, size_word, text_word, Text, xml_text, table_text, Use, Mode, at_marker, at_word, at_text, State, wait, over}
use Rattle.format.specs.Step.{worded, body_sized, object_shaped, string_sized, opened, roomy, text_done, act, step}
use Rattle.format.specs.Numbers.{Numbers, held, state_of, numbers_of, lent_of, sound_step, after_step, byte_step}
use Rattle.format.specs.Answers.{fed, run_held, cost, taken_by, feed_call}
use Rattle.format.specs.Claims.{refused_numbers, RefusedWith}
use Rattle.format.specs.Limits.{asked, NewSize, NewShape, Enters}
use Rattle.format.specs.Together.{Together, Counts, WordIn}
use Rattle.rows.specs.declared.lent.Lent.{Lent}
use Rattle.format.specs.Refusals as no
use Rattle.format.proofs.Tests.{is_true}
use Rattle.format.proofs.Pieces.{run-still, taken-still}
use Rattle.promises.proofs.Stands.{long-said, able_act, able_says}
use Rattle.promises.proofs.Together.{together-sound}

-- ---- a byte that is refused

-- the numbers of a refusal that can be said are a state that says it
refused-state : (n : Numbers) (m : Memory) (number told place : ℕ) → T (no.sayable number told place)
    → state_of (refused_numbers number told place n.head.lent n.frames) m ≡ over (refused number told place m)
unfolding state_of
refused-state n m number told place h = rw (is_true (no.sayable number told place) h)

-- what a step made of a waiting state is the whole feed's, if it refuses
refused-run : (n : Numbers) (m : Memory) (b : ℕ) (bs : List ℕ) (x : Mode) (ts : List Frame) (c : Cursor) (number told place k : ℕ) → state_of n m ≡ wait x ts c m
    → T (no.sayable number told place) → cost (over (refused number told place (zeroed m))) ≡ k
    → byte_step b (held n m) ≡ held (refused_numbers number told place n.head.lent n.frames) (zeroed m) → RefusedWith n m (b ∷ bs) number told place k
unfolding feed_call run_held taken_by
refused-run n m b bs x ts c number told place k w h e q =
    let s = refused-state n (zeroed m) number told place h in
    let r = run-still (refused_numbers number told place n.head.lent n.frames) (zeroed m) (refused number told place (zeroed m)) s bs in
    let t = taken-still (refused_numbers number told place n.head.lent n.frames) (zeroed m) (refused number told place (zeroed m)) s bs in
    rw (q, r, t, w, s) (ap (λ (i : ℕ). fed (Refused number told place i) (refused_numbers number told place n.head.lent n.frames) (zeroed m)) (add-zero _ ∙ e))

module _ (n : Numbers) (m : Memory) (b : ℕ) (bs : List ℕ) (x : Mode) (ts : List Frame) (c : Cursor) (w : state_of n m ≡ wait x ts c m)
    (h : Together n.head.lent x ts c m) where
  -- of a state that holds together the step is the byte's
  sound-byte : (number told place : ℕ) (k : Memory) → step b (wait x ts c m) ≡ over (refused number told place k)
      → byte_step b (held n m) ≡ held (refused_numbers number told place n.head.lent n.frames) k
  unfolding byte_step sound_step after_step numbers_of
  sound-byte number told place k e = rw (w, together-sound n.head.lent x ts c m h, e)

  -- at the limit
  step_past : c.at ≡ message_limit → step b (wait x ts c m) ≡ over (refused no.too_long 0 message_limit (zeroed m))
  unfolding step
  step_past e = rw (e, le-leb message_limit message_limit (le_refl _))

  -- before it
  step-act : c.at < message_limit → step b (wait x ts c m) ≡ act x b ts (taken c) m
  unfolding step
  step-act l = rw (lt-leb message_limit c.at l)

  -- 11 comes before the byte is looked at
  pub limit-first : c.at ≡ message_limit → RefusedWith n m (b ∷ bs) no.too_long 0 message_limit 0
  limit-first e =
      refused-run n m b bs x ts c no.too_long 0 message_limit 0 w (long-said message_limit refl) refl (sound-byte no.too_long 0 message_limit (zeroed m) (step_past e))

  -- a byte within the limit that is refused, its number not 11 or 12
  byte-refused : (number told : ℕ) → b < 2 ^ 8 → c.at < message_limit → cost (over (refused number told (suc c.at) (zeroed m))) ≡ 1
      → act x b ts (taken c) m ≡ over (refused number told (suc c.at) (zeroed m)) → RefusedWith n m (b ∷ bs) number told (suc c.at) 1
  byte-refused number told o l one e =
      let a = able_act n.head.lent b x ts c m (together-sound n.head.lent x ts c m h) (lt-leb message_limit c.at l) in
      refused-run n m b bs x ts c number told (suc c.at) 1 w (able_says (rw e at a) (tt, o)) one
      (sound-byte number told (suc c.at) (zeroed m) (step-act l ∙ e))

-- no more is used than is lent
counts-lent : {lent : Lent} {x : Mode} {ts : List Frame} {c : Cursor} {m : Memory} → Together lent x ts c m → Counts (lent_of m) c
counts-lent h = rw h.loans h.counts

-- so the tests of used counts pass: of the rows, the store, the strings and the objects
pub in_loans : {lent : Lent} {x : Mode} {ts : List Frame} {c : Cursor} {m : Memory} → Together lent x ts c m
    → (ltb (length m.rows / row_width) c.rows ≡ false) × (ltb (length m.store) c.store ≡ false) × (ltb (length m.strings / span_width) c.strings ≡ false)
    × (ltb (length m.objects) c.objects ≡ false)
unfolding lent_of
in_loans {c = c} {m = m} h =
    let r = counts-lent h in (
      le-ltb (length m.rows / row_width) c.rows (omega arith),
      le-ltb (length m.store) c.store (omega arith),
      le-ltb (length m.strings / span_width) c.strings (omega arith),
      le-ltb (length m.objects) c.objects (omega arith),
    )

-- ---- at a marker

module _ (n : Numbers) (m : Memory) (b : ℕ) (bs : List ℕ) (k : Key) (ts : List Frame) (c : Cursor) (w : state_of n m ≡ wait (at_marker k) ts c m)
    (h : Together n.head.lent (at_marker k) ts c m) (o : b < 2 ^ 8) (l : c.at < message_limit) where
  rows_in : ltb (length m.rows / row_width) c.rows ≡ false
  rows_in = (in_loans h).0

  act-unknown : 0x11 < b → act (at_marker k) b ts (taken c) m ≡ over (refused no.bad_marker b (suc c.at) (zeroed m))
  unfolding act marker
  act-unknown f = rw (rows_in, lt-ltb 0x11 b f)

  act-deep : b ≤ 0x11 → length ts ≡ open_limit → act (at_marker k) b ts (taken c) m ≡ over (refused no.too_deep 0 (suc c.at) (zeroed m))
  unfolding act marker
  act-deep f g = let z : open_limit - length ts ≡ 0 = omega arith in rw (rows_in, le-ltb 0x11 b f, z)

  act-full : b ≤ 0x11 → length ts < open_limit → length m.rows / row_width ≤ c.rows
      → act (at_marker k) b ts (taken c) m ≡ over (refused no.no_room loan_rows (suc c.at) (zeroed m))
  unfolding act marker
  act-full f g r =
      let z : open_limit - length ts ≡ 0 → ⊥ = λ e. omega arith in
      rw (rows_in, le-ltb 0x11 b f, ne_eqb (open_limit - length ts) 0 z, le-leb (length m.rows / row_width) c.rows r)

  -- 3, however deep it is and however full the rows are
  pub marker-unknown : 0x11 < b → RefusedWith n m (b ∷ bs) no.bad_marker b (suc c.at) 1
  marker-unknown f = byte-refused n m b bs (at_marker k) ts c w h no.bad_marker b o l refl (act-unknown f)

  -- 9, however full they are
  pub marker-deep : b ≤ 0x11 → length ts ≡ open_limit → RefusedWith n m (b ∷ bs) no.too_deep 0 (suc c.at) 1
  marker-deep f g = byte-refused n m b bs (at_marker k) ts c w h no.too_deep 0 o l refl (act-deep f g)

  -- then 10
  pub marker-full : b ≤ 0x11 → length ts < open_limit → length m.rows / row_width ≤ c.rows → RefusedWith n m (b ∷ bs) no.no_room loan_rows (suc c.at) 1
  marker-full f g r = byte-refused n m b bs (at_marker k) ts c w h no.no_room loan_rows o l refl (act-full f g r)

-- ---- at the last byte of a word

module _ (n : Numbers) (m : Memory) (b : ℕ) (bs : List ℕ) (x : Word) (left part v : ℕ) (ts : List Frame) (c : Cursor) (w : state_of n m ≡ wait (at_word x left part) ts c m)
    (h : Together n.head.lent (at_word x left part) ts c m) (o : b < 2 ^ 8) (l : c.at < message_limit) (p : part_of left part b ≡ Some (Whole v)) where
  -- the byte makes the word whole
  act-word : act (at_word x left part) b ts (taken c) m ≡ worded ts x v (taken c) m
  unfolding act
  act-word = rw p

  -- a row that is used can't enter full objects
  enters_full : (row : ℕ) → row < c.rows → length m.objects ≤ c.objects → entered row m.objects (taken c) ≡ refuse no.no_room loan_objects (taken c)
  unfolding entered
  enters_full row r f = rw (lt-leb c.rows row r, (in_loans h).3, le-leb (length m.objects) c.objects f)

  -- one that has room does
  enters_there : (row : ℕ) → row < c.rows → c.objects < length m.objects
      → entered row m.objects (taken c) ≡ give tt (set m.objects c.objects row) (objects_to (taken c) (c.objects + 1))
  unfolding entered
  enters_there row r f = rw (lt-leb c.rows row r, (in_loans h).3, lt-leb (length m.objects) c.objects f)

  -- so that nothing follows for an object
  shape_objects : (row : ℕ) → row < c.rows → length m.objects ≤ c.objects → (z : Shape) → NewShape z
      → object_shaped ts row z (taken c) m ≡ over (refused no.no_room loan_objects (suc c.at) (zeroed m))
  unfolding object_shaped
  shape_objects row r f (Object i) e = absurd e
  shape_objects row r f (Known i) e = rw (enters_full row r f)
  shape_objects row r f External e = rw (enters_full row r f)
  shape_objects row r f (Inline k y) e = rw (enters_full row r f)

  -- nor for another value
  size-objects : (row : ℕ) (body : Body) → row < c.rows → length m.objects ≤ c.objects → (z : Size) → NewSize z
      → body_sized ts row body z (taken c) m ≡ over (refused no.no_room loan_objects (suc c.at) (zeroed m))
  unfolding body_sized
  size-objects row body r f (Old i) e = absurd e
  size-objects row body r f (New k) e = rw (enters_full row r f)

  word-objects : (x : Word) → WordIn x c → Enters x v → length m.objects ≤ c.objects
      → worded ts x v (taken c) m ≡ over (refused no.no_room loan_objects (suc c.at) (zeroed m))
  unfolding worded
  word-objects (integer_word row) r e f = absurd e
  word-objects (object_word row) r e f = shape_objects row r f (shape_of v) e
  word-objects (size_word row body) r e f = size-objects row body r f (size_of v) e
  word-objects (text_word u) r e f = absurd e

  -- the objects' room comes first
  pub objects-first : Enters x v → length m.objects ≤ c.objects → RefusedWith n m (b ∷ bs) no.no_room loan_objects (suc c.at) 1
  objects-first e f =
      byte-refused n m b bs (at_word x left part) ts c w h no.no_room loan_objects o l refl (act-word ∙ word-objects x h.works.0 e f)

  -- a body, or a string, that the store has no room for, whatever the objects are
  lacks-room : (k j : ℕ) → length m.store < c.store + k → reserved k m.store (objects_to (taken c) j) ≡ refuse no.no_room loan_store (taken c)
  unfolding reserved
  lacks-room k j f = rw ((in_loans h).1, lt-ltb (length m.store) (c.store + k) f)

  -- the loans with other objects
  abbrev with_objects : List ℕ → Memory
  with_objects O = memory m.rows m.store m.strings O m.traits m.names

  entered-zero : (row : ℕ) → zeroed (with_objects (set m.objects c.objects row)) ≡ zeroed m
  unfolding zeroed
  entered-zero row = rw length-set

  -- no bytes need no room
  none_lacked : length m.store < c.store + 0 → ⊥
  unfolding lent_of
  none_lacked f = let r = counts-lent h in omega arith

  -- then the store's
  room_lacked : (row k j : ℕ) (g : Span → Cursor → Memory → State) (O : List ℕ) → zeroed (with_objects O) ≡ zeroed m → length m.store < c.store + k
      → roomy row k (objects_to (taken c) j) (with_objects O) g ≡ over (refused no.no_room loan_store (suc c.at) (zeroed m))
  unfolding roomy
  room_lacked row zero j g O z f = absurd (none_lacked f)
  room_lacked row (suc k) j g O z f = rw (lacks-room (suc k) j f) (ap (λ (q : Memory). over (refused no.no_room loan_store (suc c.at) q)) z)

  open_store : (row : ℕ) (body : Body) (k j : ℕ) (O : List ℕ) → zeroed (with_objects O) ≡ zeroed m → length m.store < c.store + asked (size_word row body) (New k)
      → opened ts row body k (objects_to (taken c) j) (with_objects O) ≡ over (refused no.no_room loan_store (suc c.at) (zeroed m))
  unfolding opened
  open_store row xml k j O z f = room_lacked row k j _ O z f
  open_store row date k j O z f = absurd (none_lacked f)
  open_store row array k j O z f = absurd (none_lacked f)
  open_store row bytes k j O z f = room_lacked row k j _ O z f
  open_store row (raw a) k j O z f = room_lacked row (k * width_of a) j _ O z f
  open_store row objects k j O z f = absurd (none_lacked f)
  open_store row dictionary k j O z f = absurd (none_lacked f)

  size-store : (row : ℕ) (body : Body) → row < c.rows → (z : Size) → (NewSize z → c.objects < length m.objects)
      → length m.store < c.store + asked (size_word row body) z → body_sized ts row body z (taken c) m ≡ over (refused no.no_room loan_store (suc c.at) (zeroed m))
  unfolding body_sized
  size-store row body r (Old i) g f = absurd (none_lacked f)
  size-store row body r (New k) g f = rw (enters_there row r (g tt)) (open_store row body k (c.objects + 1) _ (entered-zero row) f)

  string-store : (u : Use) (z : Size) → length m.store < c.store + asked (text_word u) z
      → string_sized ts u z (taken c) m ≡ over (refused no.no_room loan_store (suc c.at) (zeroed m))
  unfolding string_sized
  string-store u (Old i) f = absurd (none_lacked f)
  string-store u (New zero) f = absurd (none_lacked f)
  string-store u (New (suc k)) f = rw (lacks-room (suc k) c.objects f)

  word-store : (x : Word) → WordIn x c → (Enters x v → c.objects < length m.objects) → length m.store < c.store + asked x (size_of v)
      → worded ts x v (taken c) m ≡ over (refused no.no_room loan_store (suc c.at) (zeroed m))
  unfolding worded
  word-store (integer_word row) r e f = absurd (none_lacked f)
  word-store (object_word row) r e f = absurd (none_lacked f)
  word-store (size_word row body) r e f = size-store row body r (size_of v) e f
  word-store (text_word u) r e f = string-store u (size_of v) f

  -- room in the store is judged when the length is known
  pub store-next : (Enters x v → c.objects < length m.objects) → length m.store < c.store + asked x (size_of v)
      → RefusedWith n m (b ∷ bs) no.no_room loan_store (suc c.at) 1
  store-next e f = byte-refused n m b bs (at_word x left part) ts c w h no.no_room loan_store o l refl (act-word ∙ word-store x h.works.0 e f)

-- ---- at the last byte of a text

module _ (n : Numbers) (m : Memory) (b : ℕ) (bs : List ℕ) (x : Text) (s : Span) (test : ℕ) (ts : List Frame) (c : Cursor) (w : state_of n m ≡ wait (at_text x s 0 test) ts c m)
    (h : Together n.head.lent (at_text x s 0 test) ts c m) (o : b < 2 ^ 8) (l : c.at < message_limit) where
  -- the byte is stored
  act-text : act (at_text x s 0 test) b ts (taken c) m
      ≡ text_done ts x s (eqb (step_of test b) 0) (taken c) (memory m.rows (set m.store (s.begin + (s.size - 1)) b) m.strings m.objects m.traits m.names)
  unfolding act stored
  act-text = let (q, r) = h.works.0.1 in rw ((in_loans h).1, lt-leb s.size 0 r, le-leb (s.begin + s.size) c.store q)

  -- which leaves as many bytes
  stored-zero : zeroed (memory m.rows (set m.store (s.begin + (s.size - 1)) b) m.strings m.objects m.traits m.names) ≡ zeroed m
  unfolding zeroed
  stored-zero = rw length-set

  -- 8
  text-invalid : (x : Text) (k : Memory) → zeroed k ≡ zeroed m → length k.strings ≡ length m.strings
      → text_done ts x s false (taken c) k ≡ over (refused no.bad_text 0 (suc c.at) (zeroed m))
  unfolding text_done judged text_end
  text-invalid (xml_text row) k z e = ap (λ (q : Memory). over (refused no.bad_text 0 (suc c.at) q)) z
  text-invalid (table_text u) k z e = rw (e, (in_loans h).2) (ap (λ (q : Memory). over (refused no.bad_text 0 (suc c.at) q)) z)

  -- 8, however full the strings are
  pub text-first : step_of test b ≢ 0 → RefusedWith n m (b ∷ bs) no.bad_text 0 (suc c.at) 1
  text-first f =
      byte-refused n m b bs (at_text x s 0 test) ts c w h no.bad_text 0 o l refl
      (act-text ∙ rw (ne_eqb (step_of test b) 0 f) (text-invalid x _ stored-zero refl))

module _ (n : Numbers) (m : Memory) (b : ℕ) (bs : List ℕ) (u : Use) (s : Span) (test : ℕ) (ts : List Frame) (c : Cursor)
    (w : state_of n m ≡ wait (at_text (table_text u) s 0 test) ts c m) (h : Together n.head.lent (at_text (table_text u) s 0 test) ts c m) (o : b < 2 ^ 8)
    (l : c.at < message_limit) where
  -- 10
  text-full : length m.strings / span_width ≤ c.strings
      → text_done ts (table_text u) s true (taken c) (memory m.rows (set m.store (s.begin + (s.size - 1)) b) m.strings m.objects m.traits m.names)
      ≡ over (refused no.no_room loan_strings (suc c.at) (zeroed m))
  unfolding text_done text_end
  text-full f =
      rw ((in_loans h).2, le-leb (length m.strings / span_width) c.strings f)
      (ap (λ (q : Memory). over (refused no.no_room loan_strings (suc c.at) q)) (stored-zero n m b bs (table_text u) s test ts c w h o l))

  -- room for a string entry comes after 8
  pub strings-next : step_of test b ≡ 0 → length m.strings / span_width ≤ c.strings → RefusedWith n m (b ∷ bs) no.no_room loan_strings (suc c.at) 1
  strings-next e f =
      byte-refused n m b bs (at_text (table_text u) s 0 test) ts c w h no.no_room loan_strings o l refl
      (act-text n m b bs (table_text u) s test ts c w h o l ∙ rw e (text-full f))
