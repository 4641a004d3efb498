-- Feeding is reading: the bytes one by one, and then the end, give what the whole reading gives. While it waits the loans hold what the bytes give.
-- `sem s` is what a state still has to read. One byte of it is one step, and where there is no byte it stops, and leaves the loans as they are.
use Rattle.std.proofs.Common.{Option, Some, None}
use mathlib.Core.Path.{◌≡◌, refl, sym, ap, ◌∙◌}
use mathlib.Core.Bool.{Bool, true, false, cond, not}
use mathlib.Core.List.{List, [], ◌∷◌}
use Prim.Native.Nat.{ℕ, zero, suc, ◌+◌, ◌*◌, ◌-◌, ◌/◌, ◌^◌}
use native.Mathlib.Omega.{arith}
use lib.Dec.{leb, ltb, eqb}
use lib.ListN.{length, length-replicate}
use Rattle.rows.specs.declared.Cursor.{Cursor}
use Rattle.rows.specs.declared.Span.{Span}
use Rattle.rows.specs.declared.Key.{Key}
use Rattle.rows.specs.declared.Trait.{Trait}
use Rattle.rows.specs.Memory.{Memory, fresh, zeroed, fault_of, message_limit, open_limit, col_count, col_count2, no_span, no_key}
use Rattle.wire.specs.declared.Part.{Part}
use Rattle.wire.specs.declared.Part.TheVariants.{More, Whole}
use Rattle.wire.specs.declared.Size.{Size}
use Rattle.wire.specs.declared.Size.TheVariants.{Old, New}
use Rattle.wire.specs.declared.Shape.{Shape}
use Rattle.wire.specs.declared.Shape.TheVariants.{Object, Known, External, Inline}
use Rattle.wire.specs.U29.{part_of}
use Rattle.wire.specs.Word.{size_of, shape_of}
use Rattle.wire.specs.Big.{digit_of}
use Rattle.format.specs.declared.Frame.{Frame}
use Rattle.format.specs.Decide.{Out, stop, give, refuse, lost, lift, looking, on_rows, on_strings, on_traits, on_names, Body, xml, date, array, bytes, raw}
use Rattle.format.specs.Decide.{objects, dictionary, Kind, leaf, integer, double, string, object, sized, marker, closed, numbered, integer_end, date_end}
use Rattle.format.specs.Decide.{bodied, vector_class, fixed, weak, flagged, counted, key_end, judged, text_end, trait_of, named, trait_end, sealed_key, starred}
use Rattle.format.specs.Decide.{object_class, old_text, reserved, stored, entered, referred, old_trait}
use Rattle.format.specs.Reading.{refusal, ended, reading, taken, ok, bad, bind, ◌>>=◌, ◌>>◌, ret, Result, Reader, decided, by, byte, u29, number, chars}
use Rattle.format.specs.Reading.{fill, text_of, text, plain, Values, entries, pair, pairs, couple, names, dynamics as dynamics_of, members as members_read}
use Rattle.format.specs.Reading.{inlined, object_of, room, chars_of, filled, new_of, sized_of, marked, value, Ended, finished, refused, on_part as part_read}
use Rattle.format.specs.Step.{Pairing, assoc, dynamics, dense, vector, count_of, Task, pairs_of, items_of, members_of, keys_of, values_of, strange, task_of}
use Rattle.format.specs.Step.{frame_of, Use, for_string, for_key, for_class, for_external, for_name, for_vector, Text, xml_text, table_text, Word, integer_word}
use Rattle.format.specs.Step.{object_word, size_word, text_word, Number, double_bits, date_bits, Flag, raw_flag, objects_flag, dictionary_flag, Raw, raw_vector}
use Rattle.format.specs.Step.{Mode, at_marker, at_word, at_number, at_flag, at_text, at_raw, astray, State, wait, over, none, on, at_string, go}
use Rattle.format.specs.Step.{entry, pop, onward, keyed, members, naming, had, text_done, reserved_for, string_sized, roomy, texting, raw_row, filling}
use Rattle.format.specs.Step.{opened, body_sized, object_shaped, worded, number_done, flag_done, raw_grown, begun, on_part, shown, act, step, run, begin, end}
use Rattle.format.proofs.Tests.{on_bool, clash}
use Rattle.format.proofs.Shorter.{value-pairs}
use Rattle.format.proofs.Reasons.{Says, stops, goes, unknown, absent, unfinished, external, undated, malformed, deep, full, astrays, says-closed}
use Rattle.format.proofs.Reasons.{says-numbered, says-integer, says-date, says-bodied, says-object, says-vector, says-flagged, says-counted, says-key-end}
use Rattle.format.proofs.Reasons.{says-referred, says-marker, says-old-text, says-reserved, says-stored, says-judged, says-text-end, says-entered}
use Rattle.format.proofs.Reasons.{says-old_trait, says-named, says_trait_end, says-sealed, says-starred, says_use, says-raw}
use Rattle.format.proofs.Placed.{Placed, placed-act}
use Rattle.format.proofs.Placed as placed
use Rattle.format.specs.Refusals as refusals
use Rattle.rows.specs.Memory.{row_width, span_width, span_used, span_at}

-- ---- what is done after a reader

abbrev Cont : Type 0 → Type 0
Cont A = A → Memory → Cursor → List ℕ → Result Unit

-- a refusal zeroes the loans, but for 2
abbrev stopped : ℕ → ℕ → ℕ → Memory → Result Unit
stopped n told place m = bad n told place (cond (eqb n refusals.unexpected_end) m (zeroed m))

abbrev and_then : {A : Type 0} → Result A → Cont A → Result Unit
and_then (ok a m c bs) k = k a m c bs
and_then (bad n told place m) k = stopped n told place m

-- a reader after a reader
flat : {A B : Type 0} (v : Result A) (f : A → Reader B) (k : Cont B) → and_then (bind v f) k ≡ and_then v (λ a m c bs. and_then (f a m c bs) k)
flat (ok a m c bs) f k = refl
flat (bad n told place m) f k = refl

-- the same after it
same : {A : Type 0} (v : Result A) (k l : Cont A) → ((a : A) (m : Memory) (c : Cursor) (bs : List ℕ) → k a m c bs ≡ l a m c bs) → and_then v k ≡ and_then v l
same (ok a m c bs) k l h = h a m c bs
same (bad n told place m) k l h = refl

-- ---- what is left to read

-- what reads the values in a value around which these frames are
abbrev inner : List Frame → Values
inner ts = value (open_limit - suc (length ts))

abbrev close : ℕ → Reader Unit
close row = by (on_rows (closed row))

abbrev items : Values → ℕ → ℕ → ℕ → ℕ → Reader Unit
items rd row col n done = entries (λ done. rd no_key) row col n done

abbrev doubles : Values → ℕ → ℕ → ℕ → Reader Unit
doubles rd row n done = entries (couple rd row) row col_count n done

abbrev sealeds : Values → ℕ → ℕ → ℕ → ℕ → Reader Unit
sealeds rd row first n done = entries (λ done. by (looking (λ m. sealed_key (first + done) m.names)) >>= rd) row col_count n done

-- pairs: their row, the column that counts them, how many are done, and what follows them
abbrev row_of : Pairing → ℕ
row_of (assoc row n done) = row
row_of (dynamics row done) = row

abbrev col_of : Pairing → ℕ
col_of (assoc row n done) = col_count
col_of (dynamics row done) = col_count2

abbrev done_of : Pairing → ℕ
done_of (assoc row n done) = done
done_of (dynamics row done) = done

abbrev after_pairs : Values → Pairing → Reader Unit
after_pairs rd (assoc row n done) = items rd row col_count2 n 0 >> close row
after_pairs rd (dynamics row done) = close row

-- they are read before a key of them, and after it
pairing : Values → Pairing → Reader Unit
pairing rd p = pairs rd (row_of p) (col_of p) (done_of p) >> after_pairs rd p

after_key : Values → Pairing → Span → ℕ → Reader Unit
after_key rd p s l = pair rd (row_of p) (col_of p) (done_of p) (pairs rd (row_of p) (col_of p) (suc (done_of p))) s l >> after_pairs rd p

task : Values → Task → Reader Unit
task rd (pairs_of p) = pairing rd p
task rd (items_of i row n done) = items rd row (count_of i) n done >> close row
task rd (members_of row n done first y) = sealeds rd row first n done >> dynamics_of rd row y >> close row
task rd (keys_of row n done) = doubles rd row n done >> close row
task rd (values_of row n done) = rd no_key >> by (on_rows (counted row col_count done)) >> doubles rd row n (suc done) >> close row
task rd strange = by (λ m c. lost)

-- an entry of a task is finished: what it has left
counts : Task → Reader Task
counts (pairs_of (assoc row n done)) = by (on_rows (counted row col_count done)) >> ret (pairs_of (assoc row n (suc done)))
counts (pairs_of (dynamics row done)) = by (on_rows (counted row col_count2 done)) >> ret (pairs_of (dynamics row (suc done)))
counts (items_of i row n done) = by (on_rows (counted row (count_of i) done)) >> ret (items_of i row n (suc done))
counts (members_of row n done first y) = by (on_rows (counted row col_count done)) >> ret (members_of row n (suc done) first y)
counts (keys_of row n done) = by (looking (λ m. key_end row done m.rows)) >> ret (values_of row n done)
counts (values_of row n done) = by (on_rows (counted row col_count done)) >> ret (keys_of row n (suc done))
counts strange = by (λ m c. lost)

-- so many names of a trait, its entry, and the members
names_left : Values → ℕ → Trait → ℕ → Reader Unit
names_left rd row t n = names n >> by (on_traits (trait_end t)) >> members_read rd row t

after_use : Values → Use → Span → Reader Unit
after_use rd (for_string row) s = by (on_rows (bodied row s)) >> close row
after_use rd (for_key p) s = after_key rd p s s.size
after_use rd (for_class row n y) s = λ m c. inlined rd row (trait_of s n y c) m c
after_use rd for_external s = by (λ m c. refuse refusals.externalizable 0 c)
after_use rd (for_name row t n) s = by (on_names (named s)) >> names_left rd row t n
after_use rd (for_vector row n) s =
    by (looking (λ m. starred s m.store)) >>= (λ star. by (on_rows (vector_class row star s)) >> items rd row col_count n 0 >> close row)

-- what is done when its span is reserved
abbrev at_use : Use → Span → Reader Unit
at_use u s = by (reserved_for u s)

after_text : Values → Text → Span → Bool → Reader Unit
after_text rd (xml_text row) s valid = by (looking (λ m. judged valid)) >> close row
after_text rd (table_text u) s valid = by (on_strings (text_end s valid)) >>= after_use rd u

after_word : Values → Word → ℕ → Reader Unit
after_word rd (integer_word row) n = by (on_rows (integer_end row n))
after_word rd (object_word row) n = object_of rd row (shape_of n)
after_word rd (size_word row body) n = sized_of rd row body (size_of n)
after_word rd (text_word u) n = text_of (at_use u) (size_of n) >>= after_use rd u

after_number : Number → ℕ → Reader Unit
after_number (double_bits row) bits = by (on_rows (numbered row bits))
after_number (date_bits row) bits = by (on_rows (date_end row bits))

abbrev growing : Raw → Span → ℕ → Reader Unit
growing r s left = by (raw_grown r s left)

after_flag : Values → Flag → ℕ → Reader Unit
after_flag rd (raw_flag row w s) b = by (on_rows (flagged row (fixed b))) >> filled (growing (raw_vector row w) s) s s.size >> close row
after_flag rd (objects_flag row n) b = by (on_rows (flagged row (fixed b))) >> text plain >>= after_use rd (for_vector row n)
after_flag rd (dictionary_flag row n) b = by (on_rows (flagged row (weak b))) >> doubles rd row n 0 >> close row

-- what the frames around still have to read, when a value of theirs is finished
rest : List Frame → Cont Unit
rest [] = λ x m c bs. ok tt m c []
rest (f ∷ ts) = λ x m c bs. and_then (counts (task_of f) m c bs) (λ t m c bs. and_then (task (inner ts) t m c bs) (rest ts))

-- what a mode still has to read of its value
left : Mode → List Frame → Reader Unit
left (at_marker k) ts = value (open_limit - length ts) (shown k)
left (at_word w n part) ts = u29 n part >>= after_word (inner ts) w
left (at_number d n part) ts = number n part >>= after_number d
left (at_flag f) ts = byte >>= after_flag (inner ts) f
left (at_text x s n t) ts = chars s n t >>= after_text (inner ts) x s
left (at_raw r s n) ts = fill (growing r s) s n >> close (raw_row r)
left astray ts = byte >>= (λ b. by (λ m c. lost))

-- what has ended, as a result
abbrev outcome : Ended → Result Unit
outcome (finished c m) = ok tt m c []
outcome (refused n told place m) = bad n told place m

sem : State → List ℕ → Result Unit
sem (over e) bs = outcome e
sem (none m) bs = bad refusals.lost 0 0 (zeroed m)
sem (wait x ts c m) bs = and_then (left x ts m c bs) (rest ts)

-- ---- one law for every decision, of which none says 2

calm? : {S A : Type 0} → Out S A → Bool
calm? (stop n told place) = not (eqb n refusals.unexpected_end)
calm? (give a s c) = true

-- whatever the reasons
abbrev Reason : Type 0
Reason = Unit {0}

abbrev Loaned : ℕ → Type 0
Loaned n = Unit {0}

calm_says : {S A : Type 0} {D : Type 0} {E : ℕ → Type 0} {b p : ℕ} {o : Out S A} → Says D E b p o → calm? o ≡ true
unfolding calm?
calm_says (stops (unknown h e)) = refl
calm_says (stops (absent e)) = refl
calm_says (stops (unfinished e)) = refl
calm_says (stops (external e)) = refl
calm_says (stops (undated e)) = refl
calm_says (stops (malformed e)) = refl
calm_says (stops (deep d e)) = refl
calm_says (stops (full h e)) = refl
calm_says (stops astrays) = refl
calm_says (goes e) = refl

calm_lift : {S A : Type 0} (f : S → Memory) (o : Out S A) → calm? (lift f o) ≡ calm? o
unfolding calm?
calm_lift f (stop n told place) = refl
calm_lift f (give a s c) = refl

module _ (c : Cursor) where
  calm_closed : (row : ℕ) (R : List ℕ) → calm? (closed row R c) ≡ true
  calm_closed row R = calm_says (says-closed {D = Reason} {E = Loaned} {b = 0} {p = c.at} c refl row R)

  calm_numbered : (row n : ℕ) (R : List ℕ) → calm? (numbered row n R c) ≡ true
  calm_numbered row n R = calm_says (says-numbered {D = Reason} {E = Loaned} {b = 0} {p = c.at} c refl row n R)

  calm_integer : (row w : ℕ) (R : List ℕ) → calm? (integer_end row w R c) ≡ true
  calm_integer row w R = calm_says (says-integer {D = Reason} {E = Loaned} {b = 0} {p = c.at} c refl row w R)

  calm_date : (row bits : ℕ) (R : List ℕ) → calm? (date_end row bits R c) ≡ true
  calm_date row bits R = calm_says (says-date {D = Reason} {E = Loaned} {b = 0} {p = c.at} c refl row bits R)

  calm_bodied : (row : ℕ) (s : Span) (R : List ℕ) → calm? (bodied row s R c) ≡ true
  calm_bodied row s R = calm_says (says-bodied {D = Reason} {E = Loaned} {b = 0} {p = c.at} c refl row s R)

  calm_class : (row : ℕ) (t : Trait) (R : List ℕ) → calm? (object_class row t R c) ≡ true
  calm_class row t R = calm_says (says-object {D = Reason} {E = Loaned} {b = 0} {p = c.at} c refl row t R)

  calm_vector : (row : ℕ) (star : Bool) (s : Span) (R : List ℕ) → calm? (vector_class row star s R c) ≡ true
  calm_vector row star s R = calm_says (says-vector {D = Reason} {E = Loaned} {b = 0} {p = c.at} c refl row star s R)

  calm_flagged : (row flag : ℕ) (R : List ℕ) → calm? (flagged row flag R c) ≡ true
  calm_flagged row flag R = calm_says (says-flagged {D = Reason} {E = Loaned} {b = 0} {p = c.at} c refl row flag R)

  calm_counted : (row col done : ℕ) (R : List ℕ) → calm? (counted row col done R c) ≡ true
  calm_counted row col done R = calm_says (says-counted {D = Reason} {E = Loaned} {b = 0} {p = c.at} c refl row col done R)

  calm_key-end : (row done : ℕ) (R : List ℕ) → calm? (key_end row done R c) ≡ true
  calm_key-end row done R = calm_says (says-key-end {D = Reason} {E = Loaned} {b = 0} {p = c.at} c refl row done R)

  calm_referred : (row i : ℕ) (O R : List ℕ) → calm? (referred row i O R c) ≡ true
  calm_referred row i O R = calm_says (says-referred {D = Reason} {E = Loaned} {b = 0} {p = c.at} c refl row i O R)

  calm_marker : (k : Key) (left b : ℕ) (R : List ℕ) → calm? (marker k left b R c) ≡ true
  calm_marker k left b R = calm_says (says-marker {D = Reason} {E = Loaned} {b = b} {p = c.at} c refl k left R (λ h e. tt) (λ h l. tt))

  calm_old-text : (i : ℕ) (S : List ℕ) → calm? (old_text i S c) ≡ true
  calm_old-text i S = calm_says (says-old-text {D = Reason} {E = Loaned} {b = 0} {p = c.at} c refl i S)

  calm_reserved : (n : ℕ) (B : List ℕ) → calm? (reserved n B c) ≡ true
  calm_reserved n B = calm_says (says-reserved {D = Reason} {E = Loaned} {b = 0} {p = c.at} c refl n B (λ l. tt))

  calm_stored : (s : Span) (n b : ℕ) (B : List ℕ) → calm? (stored s n b B c) ≡ true
  calm_stored s n b B = calm_says (says-stored {D = Reason} {E = Loaned} {b = 0} {p = c.at} c refl s n b B)

  calm_judged : (valid : Bool) → calm? (judged valid c) ≡ true
  calm_judged valid = calm_says (says-judged {D = Reason} {E = Loaned} {b = 0} {p = c.at} c refl valid)

  calm_text-end : (s : Span) (valid : Bool) (S : List ℕ) → calm? (text_end s valid S c) ≡ true
  calm_text-end s valid S = calm_says (says-text-end {D = Reason} {E = Loaned} {b = 0} {p = c.at} c refl s valid S (λ l. tt))

  calm_entered : (row : ℕ) (O : List ℕ) → calm? (entered row O c) ≡ true
  calm_entered row O = calm_says (says-entered {D = Reason} {E = Loaned} {b = 0} {p = c.at} c refl row O (λ l. tt))

  calm_old_trait : (i : ℕ) (U : List ℕ) → calm? (old_trait i U c) ≡ true
  calm_old_trait i U = calm_says (says-old_trait {D = Reason} {E = Loaned} {b = 0} {p = c.at} c refl i U)

  calm_named : (s : Span) (N : List ℕ) → calm? (named s N c) ≡ true
  calm_named s N = calm_says (says-named {D = Reason} {E = Loaned} {b = 0} {p = c.at} c refl s N (λ l. tt))

  calm_trait_end : (t : Trait) (U : List ℕ) → calm? (trait_end t U c) ≡ true
  calm_trait_end t U = calm_says (says_trait_end {D = Reason} {E = Loaned} {b = 0} {p = c.at} c refl t U (λ l. tt))

  calm_sealed : (i : ℕ) (N : List ℕ) → calm? (sealed_key i N c) ≡ true
  calm_sealed i N = calm_says (says-sealed {D = Reason} {E = Loaned} {b = 0} {p = c.at} c refl i N)

  calm_starred : (s : Span) (B : List ℕ) → calm? (starred s B c) ≡ true
  calm_starred s B = calm_says (says-starred {D = Reason} {E = Loaned} {b = 0} {p = c.at} c refl s B)

calm_use : (u : Use) (s : Span) (c : Cursor) (m : Memory) → calm? (reserved_for u s m c) ≡ true
calm_use u s c m = calm_says (says_use {D = Reason} {E = Loaned} {b = 0} {p = c.at} [] u s c m refl)

calm_raw : (r : Raw) (s : Span) (n : ℕ) (c : Cursor) (m : Memory) → calm? (raw_grown r s n m c) ≡ true
calm_raw r s n c m = calm_says (says-raw {D = Reason} {E = Loaned} {b = 0} {p = c.at} r s n c m refl)

ruleset calm = (
  calm_lift,
  calm_closed,
  calm_numbered,
  calm_integer,
  calm_date,
  calm_bodied,
  calm_class,
  calm_vector,
  calm_flagged,
  calm_counted,
  calm_key-end,
  calm_referred,
  calm_marker,
  calm_old-text,
  calm_reserved,
  calm_stored,
  calm_judged,
  calm_text-end,
  calm_entered,
  calm_old_trait,
  calm_named,
  calm_trait_end,
  calm_sealed,
  calm_starred,
  calm_use,
  calm_raw,
)

not_true' : (t : Bool) → not t ≡ true → t ≡ false
not_true' true e = clash cc
not_true' false e = refl

sem-on : {A : Type 0} (o : Out Memory A) (m : Memory) (f : A → Cursor → Memory → State) (bs : List ℕ) → calm? o ≡ true
    → sem (on o m f) bs ≡ and_then (decided o m bs) (λ a m c bs. sem (f a c m) bs)
unfolding sem calm?
sem-on (stop n told place) m f bs e = let q : eqb n refusals.unexpected_end ≡ false = not_true' (eqb n refusals.unexpected_end) e in rw q
sem-on (give a m c) _ f bs e = refl

sem-over : (e : Ended) (bs : List ℕ) → sem (over e) bs ≡ outcome e
unfolding sem
sem-over e bs = refl

sem-none : (m : Memory) (bs : List ℕ) → sem (none m) bs ≡ bad refusals.lost 0 0 (zeroed m)
unfolding sem
sem-none m bs = refl

-- ---- tasks

-- a task is read back from its frame
task-of : (t : Task) → task_of (frame_of t) ≡ t
unfolding task_of frame_of
task-of (pairs_of (assoc row left done)) = refl
task-of (pairs_of (dynamics row done)) = refl
task-of (items_of dense row left done) = refl
task-of (items_of vector row left done) = refl
task-of (members_of row left done first y) = refl
task-of (keys_of row left done) = refl
task-of (values_of row left done) = refl
task-of strange = refl

-- a name's key shows as it is
sealed-shown : (i : ℕ) (m : Memory) (c : Cursor) (bs : List ℕ) (k : Cont Key)
    → and_then (by (looking (λ m. sealed_key i m.names)) m c bs) (λ key. k (shown key)) ≡ and_then (by (looking (λ m. sealed_key i m.names)) m c bs) k
unfolding sealed_key shown
sealed-shown i m c bs k =
    on_bool (ltb (length m.names / span_width) c.names) (λ e. rw e)
    (λ e. rw e (on_bool (leb c.names i) (λ e. rw e) (λ e. rw e (on_bool (span_used c (span_at m.names i)) (λ e. rw e) (λ e. rw e)))))

module _ (ts : List Frame) where
  -- a string is next
  sem_use : (u : Use) (c : Cursor) (m : Memory) (bs : List ℕ)
      → sem (wait (at_string u) ts c m) bs ≡ and_then (text (at_use u) m c bs) (λ s m c bs. and_then (after_use (inner ts) u s m c bs) (rest ts))
  unfolding sem left after_word text
  sem_use u c m bs = simp flat

  -- the next key
  sem-next : (p : Pairing) (c : Cursor) (m : Memory) (bs : List ℕ)
      → sem (wait (at_string (for_key p)) ts c m) bs ≡ and_then (pairing (inner ts) p m c bs) (rest ts)
  unfolding pairing after_use after_key reserved_for
  sem-next p c m bs = rw (value-pairs (open_limit - suc (length ts)) (row_of p) (col_of p) (done_of p) m c bs) (simp (sem_use, flat))

  -- a value of a task is next
  sem-child : (key : Key) (t : Task) (c : Cursor) (m : Memory) (bs : List ℕ) → sem (wait (at_marker key) (frame_of t ∷ ts) c m) bs
      ≡ and_then (inner ts (shown key) m c bs) (λ x m c bs. and_then (counts t m c bs) (λ t m c bs. and_then (task (inner ts) t m c bs) (rest ts)))
  unfolding sem left rest
  sem-child key t c m bs = simp (sem, rest, task-of)

  module _ (k : Cursor → Memory → State) (h : (c : Cursor) (m : Memory) (bs : List ℕ) → sem (k c m) bs ≡ rest ts tt m c bs) where
    sem-go : (t : Task) (c : Cursor) (m : Memory) (bs : List ℕ) → sem (go k ts t c m) bs ≡ and_then (task (inner ts) t m c bs) (rest ts)
    unfolding go task entries couple dynamics_of counts pairing shown
    sem-go (pairs_of p) c m bs = sem-next p c m bs
    sem-go (items_of i row zero done) c m bs = simp (go, sem-on, calm, h)
    sem-go (items_of i row (suc n) done) c m bs = simp (go, sem-child, flat)
    sem-go (members_of row zero done first zero) c m bs = simp (go, sem-on, calm, h)
    sem-go (members_of row zero done first (suc y)) c m bs = sem-next (dynamics row 0) c m bs
    sem-go (members_of row (suc n) done first y) c m bs =
        simp (go, sem-on, calm, sem-child, flat) (sealed-shown (first + done) m c bs _)
    sem-go (keys_of row zero done) c m bs = simp (sem-on, calm, h)
    sem-go (keys_of row (suc n) done) c m bs = simp (go, sem-child, flat)
    sem-go (values_of row n done) c m bs = simp (go, sem-child, flat)
    sem-go strange c m bs = sem-over _ bs

-- an entry of a task is finished
sem-entry : (t : Task) (c : Cursor) (m : Memory) (f : Task → Cursor → Memory → State) (bs : List ℕ)
    → sem (entry t c m f) bs ≡ and_then (counts t m c bs) (λ t m c bs. sem (f t c m) bs)
unfolding entry counts
sem-entry (pairs_of (assoc row n done)) c m f bs = simp (sem-on, calm, flat)
sem-entry (pairs_of (dynamics row done)) c m f bs = simp (sem-on, calm, flat)
sem-entry (items_of i row n done) c m f bs = simp (sem-on, calm, flat)
sem-entry (members_of row n done first y) c m f bs = simp (sem-on, calm, flat)
sem-entry (keys_of row n done) c m f bs = simp (sem-on, calm, flat)
sem-entry (values_of row n done) c m f bs = simp (sem-on, calm, flat)
sem-entry strange c m f bs = sem-over _ bs

-- a value is finished
sem-pop : (ts : List Frame) (c : Cursor) (m : Memory) (bs : List ℕ) → sem (pop ts c m) bs ≡ rest ts tt m c bs
unfolding pop rest
sem-pop [] c m bs = sem-over _ bs
sem-pop (f ∷ ts) c m bs = sem-entry (task_of f) c m _ bs ∙ same (counts (task_of f) m c bs) _ _ (λ t m c bs. sem-go ts (pop ts) (sem-pop ts) t c m bs)

-- ---- each waiting point; `the rest` is what the frames around have left

-- the value in work goes on with a task
module _ (ts : List Frame) where
  sem-onward : (t : Task) (c : Cursor) (m : Memory) (bs : List ℕ) → sem (onward ts t c m) bs ≡ and_then (task (inner ts) t m c bs) (rest ts)
  sem-onward t c m bs = sem-go ts (pop ts) (sem-pop ts) t c m bs

  sem-members : (row : ℕ) (t : Trait) (c : Cursor) (m : Memory) (bs : List ℕ)
      → sem (members ts row t c m) bs ≡ and_then (members_read (inner ts) row t m c bs) (rest ts)
  unfolding task members_read
  sem-members row t c m bs = sem-onward (members_of row t.count 0 t.first t.dynamic) c m bs

  sem-wait : (x : Mode) (c : Cursor) (m : Memory) (bs : List ℕ) → sem (wait x ts c m) bs ≡ and_then (left x ts m c bs) (rest ts)
  unfolding sem
  sem-wait x c m bs = refl

  -- ---- strings and texts

  sem-keyed : (p : Pairing) (s : Span) (n : ℕ) (c : Cursor) (m : Memory) (bs : List ℕ)
      → sem (keyed ts p s n c m) bs ≡ and_then (after_key (inner ts) p s n m c bs) (rest ts)
  unfolding keyed after_key pair task pairing counts shown
  sem-keyed (assoc row n done) s zero c m bs = sem-onward (items_of dense row n 0) c m bs
  sem-keyed (dynamics row done) s zero c m bs = simp (keyed, sem-on, calm, sem-pop)
  sem-keyed (assoc row n done) s (suc l) c m bs = simp (keyed, sem-child, flat)
  sem-keyed (dynamics row done) s (suc l) c m bs = simp (keyed, sem-child, flat)

  sem-naming : (row : ℕ) (t : Trait) (n : ℕ) (c : Cursor) (m : Memory) (bs : List ℕ)
      → sem (naming ts row t n c m) bs ≡ and_then (names_left (inner ts) row t n m c bs) (rest ts)
  unfolding naming names_left names after_use reserved_for
  sem-naming row t zero c m bs = simp (naming, sem-on, calm, sem-members, flat)
  sem-naming row t (suc n) c m bs = sem_use ts (for_name row t n) c m bs ∙ simp flat

  sem-had : (u : Use) (s : Span) (c : Cursor) (m : Memory) (bs : List ℕ) → sem (had ts u s c m) bs ≡ and_then (after_use (inner ts) u s m c bs) (rest ts)
  unfolding had after_use inlined names_left task
  sem-had (for_string row) s c m bs = simp (had, sem-on, calm, sem-pop, flat)
  sem-had (for_key p) s c m bs = sem-keyed p s s.size c m bs
  sem-had (for_class row n y) s c m bs = simp (had, sem-on, calm, sem-naming, flat)
  sem-had for_external s c m bs = sem-over _ bs
  sem-had (for_name row t n) s c m bs = simp (had, sem-on, calm, sem-naming, flat)
  sem-had (for_vector row n) s c m bs = simp (had, sem-on, calm, sem-onward, flat)

  sem-text : (x : Text) (s : Span) (valid : Bool) (c : Cursor) (m : Memory) (bs : List ℕ)
      → sem (text_done ts x s valid c m) bs ≡ and_then (after_text (inner ts) x s valid m c bs) (rest ts)
  unfolding text_done after_text
  sem-text (xml_text row) s valid c m bs = simp (text_done, sem-on, calm, sem-pop, flat)
  sem-text (table_text u) s valid c m bs = simp (text_done, sem-on, calm, sem-had, flat)

  -- ---- words

  sem-string : (u : Use) (z : Size) (c : Cursor) (m : Memory) (bs : List ℕ)
      → sem (string_sized ts u z c m) bs ≡ and_then (bind (text_of (at_use u) z m c bs) (after_use (inner ts) u)) (rest ts)
  unfolding string_sized text_of left after_text
  sem-string u (Old i) c m bs = simp (string_sized, sem-on, calm, sem-had, flat)
  sem-string u (New zero) c m bs = sem-had u no_span c m bs
  sem-string u (New (suc n)) c m bs = simp (string_sized, sem-on, calm, sem-wait, flat)

  sem-room : (row n : ℕ) (f : Span → Cursor → Memory → State) (c : Cursor) (m : Memory) (bs : List ℕ)
      → sem (roomy row n c m f) bs ≡ and_then (room row n m c bs) (λ s m c bs. sem (f s c m) bs)
  unfolding roomy room
  sem-room row zero f c m bs = refl
  sem-room row (suc n) f c m bs = simp (roomy, sem-on, calm, flat)

  sem-texting : (row : ℕ) (s : Span) (n : ℕ) (c : Cursor) (m : Memory) (bs : List ℕ)
      → sem (texting ts row s n c m) bs ≡ and_then (chars_of s n m c bs) (λ valid m c bs. and_then (after_text (inner ts) (xml_text row) s valid m c bs) (rest ts))
  unfolding texting chars_of left after_text judged
  sem-texting row s zero c m bs = simp (texting, sem-on, calm, sem-pop)
  sem-texting row s (suc n) c m bs = simp (texting, sem-wait, flat)

  sem-filling : (r : Raw) (s : Span) (n : ℕ) (c : Cursor) (m : Memory) (bs : List ℕ)
      → sem (filling ts r s n c m) bs ≡ and_then (filled (growing r s) s n m c bs) (λ x m c bs. and_then (close (raw_row r) m c bs) (rest ts))
  unfolding filling filled left
  sem-filling r s zero c m bs = simp (filling, sem-on, calm, sem-pop)
  sem-filling r s (suc n) c m bs = simp (filling, sem-wait, flat)

  sem-opened : (row : ℕ) (body : Body) (n : ℕ) (c : Cursor) (m : Memory) (bs : List ℕ)
      → sem (opened ts row body n c m) bs ≡ and_then (new_of (inner ts) row body n m c bs) (rest ts)
  unfolding opened new_of pairing left after_text after_number after_flag after_use raw_grown
  sem-opened row xml n c m bs = simp (opened, sem-room, sem-texting, flat)
  sem-opened row date n c m bs = simp (opened, sem-wait, flat)
  sem-opened row array n c m bs = sem-next ts (assoc row n 0) c m bs ∙ simp flat
  sem-opened row bytes n c m bs = simp (opened, sem-room, sem-filling, flat)
  sem-opened row (raw w) n c m bs = simp (opened, sem-room, sem-wait, flat)
  sem-opened row objects n c m bs = simp (opened, sem-wait, flat)
  sem-opened row dictionary n c m bs = simp (opened, sem-wait, flat)

  sem-body : (row : ℕ) (body : Body) (z : Size) (c : Cursor) (m : Memory) (bs : List ℕ)
      → sem (body_sized ts row body z c m) bs ≡ and_then (sized_of (inner ts) row body z m c bs) (rest ts)
  unfolding body_sized sized_of
  sem-body row body (Old i) c m bs = simp (body_sized, sem-on, calm, sem-pop)
  sem-body row body (New n) c m bs = simp (body_sized, sem-on, calm, sem-opened, flat)

  sem-object : (row : ℕ) (z : Shape) (c : Cursor) (m : Memory) (bs : List ℕ)
      → sem (object_shaped ts row z c m) bs ≡ and_then (object_of (inner ts) row z m c bs) (rest ts)
  unfolding object_shaped object_of after_use reserved_for
  sem-object row (Object i) c m bs = simp (object_shaped, sem-on, calm, sem-pop)
  sem-object row (Known i) c m bs = simp (object_shaped, sem-on, calm, sem-members, flat)
  sem-object row External c m bs = simp (object_shaped, sem-on, calm, sem_use, flat)
  sem-object row (Inline n y) c m bs = simp (object_shaped, sem-on, calm, sem_use, flat)

  sem-word : (w : Word) (n : ℕ) (c : Cursor) (m : Memory) (bs : List ℕ)
      → sem (worded ts w n c m) bs ≡ and_then (after_word (inner ts) w n m c bs) (rest ts)
  unfolding worded after_word
  sem-word (integer_word row) n c m bs = simp (worded, sem-on, calm, sem-pop)
  sem-word (object_word row) n c m bs = sem-object row (shape_of n) c m bs
  sem-word (size_word row body) n c m bs = sem-body row body (size_of n) c m bs
  sem-word (text_word u) n c m bs = sem-string u (size_of n) c m bs

  -- ---- numbers, flags, markers

  sem-number : (d : Number) (bits : ℕ) (c : Cursor) (m : Memory) (bs : List ℕ)
      → sem (number_done ts d bits c m) bs ≡ and_then (after_number d bits m c bs) (rest ts)
  unfolding number_done after_number
  sem-number (double_bits row) bits c m bs = simp (number_done, sem-on, calm, sem-pop)
  sem-number (date_bits row) bits c m bs = simp (number_done, sem-on, calm, sem-pop)

  sem-flag : (f : Flag) (b : ℕ) (c : Cursor) (m : Memory) (bs : List ℕ)
      → sem (flag_done ts f b c m) bs ≡ and_then (after_flag (inner ts) f b m c bs) (rest ts)
  unfolding flag_done after_flag after_use reserved_for task
  sem-flag (raw_flag row w s) b c m bs = simp (flag_done, sem-on, calm, sem-filling, flat)
  sem-flag (objects_flag row n) b c m bs = simp (flag_done, sem-on, calm, sem_use, flat)
  sem-flag (dictionary_flag row n) b c m bs = simp (flag_done, sem-on, calm, sem-onward, flat)

  sem-begun : (row : ℕ) (k : Kind) (c : Cursor) (m : Memory) (bs : List ℕ)
      → sem (begun ts row k c m) bs ≡ and_then (marked (inner ts) row k m c bs) (rest ts)
  unfolding begun marked left after_word after_number after_use reserved_for
  sem-begun row leaf c m bs = sem-pop ts c m bs
  sem-begun row integer c m bs = simp (begun, sem-wait, flat)
  sem-begun row double c m bs = simp (begun, sem-wait, flat)
  sem-begun row string c m bs = simp (begun, sem_use, flat)
  sem-begun row object c m bs = simp (begun, sem-wait, flat)
  sem-begun row (sized body) c m bs = simp (begun, sem-wait, flat)

-- ---- a byte

-- after a byte of a number
abbrev parted : Option Part → Memory → (ℕ → Result Unit) → (ℕ → Result Unit) → Result Unit
parted (Some (More n)) m more whole = more n
parted (Some (Whole n)) m more whole = whole n
parted None m more whole = bad refusals.lost 0 0 (zeroed m)

sem-part : (p : Option Part) (m : Memory) (more whole : ℕ → State) (bs : List ℕ)
    → sem (on_part p m more whole) bs ≡ parted p m (λ n. sem (more n) bs) (λ n. sem (whole n) bs)
sem-part (Some (More n)) m more whole bs = refl
sem-part (Some (Whole n)) m more whole bs = refl
sem-part None m more whole bs = sem-over _ bs

part-read : (p : Option Part) (rd : ℕ → Reader ℕ) (m : Memory) (c : Cursor) (bs : List ℕ) (k : Cont ℕ)
    → and_then (part_read rd p m c bs) k ≡ parted p m (λ n. and_then (rd n m c bs) k) (λ n. k n m c bs)
part-read (Some (More n)) rd m c bs k = refl
part-read (Some (Whole n)) rd m c bs k = refl
part-read None rd m c bs k = refl

-- its last byte
part-last : (n b : ℕ) (m : Memory) (more whole : ℕ → Result Unit)
    → parted (part_of 0 n b) m more whole ≡ cond (leb (2 ^ 21) n) (bad refusals.lost 0 0 (zeroed m)) (whole (n * 2 ^ 8 + b))
unfolding part_of
part-last n b m more whole = on_bool (leb (2 ^ 21) n) (λ e. rw e) (λ e. rw e)

digit-last : (n b : ℕ) (m : Memory) (more whole : ℕ → Result Unit)
    → parted (digit_of 0 n b) m more whole ≡ cond (leb (2 ^ 56) n) (bad refusals.lost 0 0 (zeroed m)) (whole (n * 2 ^ 8 + b))
unfolding digit_of
digit-last n b m more whole = on_bool (leb (2 ^ 56) n) (λ e. rw e) (λ e. rw e)

-- where no value may open, a marker is refused whatever would come after it
shut : (key : Key) (b : ℕ) (m : Memory) (c : Cursor) (k l : Cont ℕ) (bs : List ℕ)
    → and_then (by (on_rows (marker key 0 b)) m c bs) k ≡ and_then (by (on_rows (marker key 0 b)) m c bs) l
unfolding marker
shut key b m c k l bs =
    on_bool (ltb (length m.rows / row_width) c.rows) (λ e. rw e) (λ e. rw e (on_bool (ltb 0x11 b) (λ e. rw e) (λ e. rw e)))

pred_suc : (n : ℕ) → suc n - 1 ≡ n
pred_suc n = omega arith

module _ (ts : List Frame) (c : Cursor) (m : Memory) (bs : List ℕ) where
  sem-marker : (key : Key) (d : ℕ) → open_limit - length ts ≡ d
      → and_then (value d (shown key) m c bs) (rest ts) ≡ and_then (byte m c bs) (λ b m c bs. sem (act (at_marker key) b ts c m) bs)
  unfolding value act
  sem-marker key zero e = rw e (simp (act, sem-on, calm, sem-begun, flat) (same (byte m c bs) _ _ (λ b m c bs. shut (shown key) b m c _ _ bs)))
  sem-marker key (suc d) e = let z : open_limit - suc (length ts) ≡ d = omega arith in rw e (simp (act, sem-on, calm, sem-begun, flat, z))

  -- what a mode has to read is a byte, and then what the byte makes of it
  sem-byte : (x : Mode) → sem (wait x ts c m) bs ≡ and_then (byte m c bs) (λ b m c bs. sem (act x b ts c m) bs)
  unfolding sem left act u29 number chars fill filled
  sem-byte (at_marker k) = sem-marker k (open_limit - length ts) refl
  sem-byte (at_word w zero n) = simp (act, sem-part, sem-word, part-read, part-last, flat)
  sem-byte (at_word w (suc l) n) = simp (act, sem-part, sem-word, part-read, pred_suc, flat)
  sem-byte (at_number d zero n) = simp (act, sem-part, sem-number, part-read, digit-last, flat)
  sem-byte (at_number d (suc l) n) = simp (act, sem-part, sem-number, part-read, pred_suc, flat)
  sem-byte (at_flag f) = simp (act, sem-flag, flat)
  sem-byte (at_text x s zero t) = simp (act, sem-on, calm, sem-text, flat)
  sem-byte (at_text x s (suc n) t) = simp (act, sem-on, calm, sem-wait, flat)
  sem-byte (at_raw r s zero) = simp (act, sem-on, calm, sem-filling, flat)
  sem-byte (at_raw r s (suc n)) = simp (act, sem-on, calm, sem-filling, flat)
  sem-byte astray = simp (act, sem-over, flat)

-- ---- a step, an end, a run

sem-step : (s : State) (b : ℕ) (bs : List ℕ) → sem (step b s) bs ≡ sem s (b ∷ bs)
unfolding step byte
sem-step (over e) b bs = simp sem-over
sem-step (none m) b bs = simp (sem-over, sem-none)
sem-step (wait x ts c m) b bs =
    on_bool (leb message_limit c.at) (λ e. rw e (sem-over _ bs ∙ sym (rw e at (sem-byte ts c m (b ∷ bs) x))))
    (λ e. rw e (sym (rw e at (sem-byte ts c m (b ∷ bs) x))))

-- what a state gives where no byte comes
abbrev ending : State → Result Unit
ending (over e) = outcome e
ending (none m) = bad refusals.lost 0 0 (zeroed m)
ending (wait x ts c m) = bad refusals.unexpected_end 0 c.at m

sem-end : (s : State) → sem s [] ≡ ending s
unfolding byte
sem-end (over e) = sem-over e []
sem-end (none m) = sem-none m []
sem-end (wait x ts c m) = sem-byte ts c m [] x

run-sem : (bs : List ℕ) (s : State) → ending (run s bs) ≡ sem s bs
unfolding run
run-sem [] s = sym (sem-end s)
run-sem (b ∷ bs) s = run-sem bs (step b s) ∙ sem-step s b bs

-- what a reading gives, its bytes left out
abbrev given : Result Unit → Result Unit
given (ok x m c bs) = ok tt m c []
given (bad n told place m) = stopped n told place m

sem-given : (v : Result Unit) → and_then v (rest []) ≡ given v
unfolding rest
sem-given (ok x m c bs) = refl
sem-given (bad n told place m) = refl

begin-sem : (m : Memory) (bs : List ℕ) → fault_of m ≡ 0 → sem (begin m) bs ≡ given (value open_limit no_key (zeroed m) fresh bs)
unfolding begin sem left shown
begin-sem m bs e = let z : open_limit - 0 ≡ open_limit = omega arith in rw (e, z) (sem-given (value open_limit no_key (zeroed m) fresh bs))

waits-given : (v : Result Unit) (at : ℕ) (k : Memory) → given v ≡ bad refusals.unexpected_end 0 at k → v ≡ bad refusals.unexpected_end 0 at k
waits-given (ok x m c bs) at k e = clash cc
waits-given (bad n told place m) at k e =
    let i : n ≡ refusals.unexpected_end = cc in
    let j : told ≡ 0 = cc in
    let l : place ≡ at = cc in
    let f : cond (eqb n refusals.unexpected_end) m (zeroed m) ≡ k = cc in
    let g : m ≡ k = rw i at f in
    rw (i, j, l, g)

-- the reading of the same bytes stops with 2, at the same place and in the same loans
pub waits-reading : (m : Memory) (a : List ℕ) (x : Mode) (ts : List Frame) (c : Cursor) (k : Memory) → fault_of m ≡ 0 → run (begin m) a ≡ wait x ts c k
    → value open_limit no_key (zeroed m) fresh a ≡ bad refusals.unexpected_end 0 c.at k
waits-reading m a x ts c k e q = waits-given _ c.at k (sym (begin-sem m a e) ∙ sym (run-sem a (begin m)) ∙ ap ending q)

-- ---- and so feeding is reading

-- a refusal left the loans zero
abbrev Wiped : State → Type 0
Wiped (wait x ts c m) = Unit
Wiped (over (finished c m)) = Unit
Wiped (over (refused n told place m)) = (k : Memory) × (m ≡ zeroed k)
Wiped (none m) = Unit

wiped-placed : {b p : ℕ} (s : State) → Placed b p s → Wiped s
wiped-placed s (placed.waits e) = tt
wiped-placed s (placed.finishes e) = tt
wiped-placed s (placed.declines k r z) = (k, z)

wiped-step : (b : ℕ) (s : State) → Wiped s → Wiped (step b s)
unfolding step
wiped-step b (wait x ts c m) w =
    on_bool (leb message_limit c.at) (λ e. rw e (m, refl))
    (λ e. rw e (wiped-placed (act x b ts (taken c) m) (placed-act {b = b} x ts (taken c) m refl)))
wiped-step b (over e) w = w
wiped-step b (none m) w = (m, refl)

wiped-run : (bs : List ℕ) (s : State) → Wiped s → Wiped (run s bs)
unfolding run
wiped-run [] s w = w
wiped-run (b ∷ bs) s w = wiped-run bs (step b s) (wiped-step b s w)

zeroed-twice : (m : Memory) → zeroed (zeroed m) ≡ zeroed m
unfolding zeroed
zeroed-twice m = simp length-replicate

-- a result as an end
abbrev back : Result Unit → Ended
back (ok x m c bs) = finished c m
back (bad n told place m) = refusal n told place m

back-ending : (s : State) → Wiped s → back (ending s) ≡ end s
unfolding end
back-ending (wait x ts c m) w = refl
back-ending (over (finished c m)) w = refl
back-ending (over (refused n told place m)) (k, e) = rw (e, zeroed-twice k)
back-ending (none m) w = rw (zeroed-twice m)

back-given : (v : Result Unit) → back (given v) ≡ ended v
unfolding ended
back-given (ok x m c bs) = refl
back-given (bad n told place m) = on_bool (eqb n refusals.unexpected_end) (λ e. rw e) (λ e. rw (e, zeroed-twice m))

run-ended : (e : Ended) (bs : List ℕ) → run (over e) bs ≡ over e
unfolding run step
run-ended e [] = refl
run-ended e (b ∷ bs) = run-ended e bs

-- the bytes, and then the end, are the whole reading
pub feeding : (m : Memory) (bs : List ℕ) → end (run (begin m) bs) ≡ reading m bs
unfolding begin reading end
feeding m bs = by-fault (fault_of m) refl
  where
    by-fault : (fault : ℕ) → fault_of m ≡ fault → end (run (begin m) bs) ≡ reading m bs
    by-fault zero e =
        let w : Wiped (begin m) = rw e tt in
        let v : Result Unit = value open_limit no_key (zeroed m) fresh bs in
        sym (back-ending (run (begin m) bs) (wiped-run bs (begin m) w)) ∙ ap back (run-sem bs (begin m) ∙ begin-sem m bs e) ∙ back-given v ∙ rw e
    by-fault (suc loan) e = rw e (ap end (run-ended (refused refusals.bad_loan (suc loan) 0 m) bs))
