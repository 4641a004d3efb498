-- A byte leaves a state that waits or has ended, never one that was not begun.
use mathlib.Core.Bool.{Bool}
use Rattle.std.specs.Prelude.{Option, Some, None}
use mathlib.Core.List.{List, [], ◌∷◌}
use Prim.Native.Nat.{ℕ, zero, suc, ◌+◌, ◌*◌, ◌-◌}
use lib.Dec.{eqb}
use lib.ListN.{length}
use Rattle.rows.specs.declared.Cursor.{Cursor}
use Rattle.rows.specs.declared.Span.{Span}
use Rattle.rows.specs.declared.Trait.{Trait}
use Rattle.rows.specs.Memory.{Memory, open_limit, col_count, col_count2, no_span}
use Rattle.wire.specs.declared.Part.{Part}
use Rattle.wire.specs.declared.Part.TheVariants.{More, Whole}
use Rattle.wire.specs.declared.Size.{Size}
use Rattle.wire.specs.declared.Size.TheVariants.{Old, New}
use Rattle.wire.specs.declared.Shape.{Shape}
use Rattle.wire.specs.declared.Shape.TheVariants.{Object, Known, External, Inline}
use Rattle.wire.specs.U29.{part_of}
use Rattle.wire.specs.Word.{size_of, shape_of}
use Rattle.wire.specs.Big.{digit_of}
use Rattle.utf8.specs.States.{step_of}
use Rattle.format.specs.declared.Frame.{Frame}
use Rattle.format.specs.Decide.{Out, stop, give, Decision, looking, on_rows, on_store, on_strings, on_objects, on_traits, on_names, width_of}
use Rattle.format.specs.Decide.{Body, xml, date, array, bytes, raw, objects, dictionary, Kind, leaf, integer, double, string, object, sized}
use Rattle.format.specs.Decide.{kind_of, marker, closed, numbered, integer_end, date_end, bodied, object_class, vector_class, fixed, weak, flagged}
use Rattle.format.specs.Decide.{counted, key_end, old_text, reserved, stored, judged, text_end, entered, referred, old_trait, trait_of, named, trait_end, sealed_key, starred}
use Rattle.format.specs.Step.{Pairing, assoc, dynamics, dense, vector, count_of, Task, pairs_of, items_of, members_of, keys_of, values_of, strange, task_of, frame_of}
use Rattle.format.specs.Step.{Use, for_string, for_key, for_class, for_external, for_name, for_vector, Text, xml_text, table_text}
use Rattle.format.specs.Step.{Word, integer_word, object_word, size_word, text_word, Number, double_bits, date_bits, Flag, raw_flag, objects_flag, dictionary_flag}
use Rattle.format.specs.Step.{Raw, byte_array, raw_vector, raw_row, Mode, at_marker, at_word, at_number, at_flag, at_text, at_raw, astray, State, wait, over, none}
use Rattle.format.specs.Step.{on, at_string, shown, go, entry, pop, onward, ends, keyed, members, naming, had, text_done, reserved_for, string_sized}
use Rattle.format.specs.Step.{roomy, texting, filling, opened, body_sized, object_shaped, worded, number_done, flag_done, raw_grown, begun, on_part, act}

abbrev pub Going : State → Type 0
Going (wait x ts c m) = Unit
Going (over e) = Unit
Going (none m) = ⊥

on-going : {A : Type 0} (o : Out Memory A) (m : Memory) (f : A → Cursor → Memory → State) → ((a : A) (c : Cursor) (m : Memory) → Going (f a c m)) → Going (on o m f)
on-going (stop n told place) m f h = tt
on-going (give a m c) _ f h = h a c m

go-going : (k : Cursor → Memory → State) → ((c : Cursor) (m : Memory) → Going (k c m)) → (ts : List Frame) (t : Task) (c : Cursor) (m : Memory)
    → Going (go k ts t c m)
unfolding go
go-going k h ts (pairs_of p) c m = tt
go-going k h ts (items_of i row zero done) c m = on-going (on_rows (closed row) m c) m (λ x c m. k c m) (λ x c m. h c m)
go-going k h ts (items_of i row (suc n) done) c m = tt
go-going k h ts (members_of row zero done first zero) c m = on-going (on_rows (closed row) m c) m (λ x c m. k c m) (λ x c m. h c m)
go-going k h ts (members_of row zero done first (suc y)) c m = tt
go-going k h ts (members_of row (suc n) done first y) c m =
    on-going (looking (λ m. sealed_key (first + done) m.names) m c) m (λ key c m. wait (at_marker key) (frame_of (members_of row n done first y) ∷ ts) c m)
    (λ key c m. tt)
go-going k h ts (keys_of row zero done) c m = on-going (on_rows (closed row) m c) m (λ x c m. k c m) (λ x c m. h c m)
go-going k h ts (keys_of row (suc n) done) c m = tt
go-going k h ts (values_of row n done) c m = tt
go-going k h ts strange c m = tt

entry-going : (t : Task) (c : Cursor) (m : Memory) (f : Task → Cursor → Memory → State) → ((t : Task) (c : Cursor) (m : Memory) → Going (f t c m))
    → Going (entry t c m f)
unfolding entry
entry-going (pairs_of (assoc row n done)) c m f h =
    on-going (on_rows (counted row col_count done) m c) m (λ x. f (pairs_of (assoc row n (suc done)))) (λ x. h (pairs_of (assoc row n (suc done))))
entry-going (pairs_of (dynamics row done)) c m f h =
    on-going (on_rows (counted row col_count2 done) m c) m (λ x. f (pairs_of (dynamics row (suc done)))) (λ x. h (pairs_of (dynamics row (suc done))))
entry-going (items_of i row n done) c m f h =
    on-going (on_rows (counted row (count_of i) done) m c) m (λ x. f (items_of i row n (suc done))) (λ x. h (items_of i row n (suc done)))
entry-going (members_of row n done first y) c m f h =
    on-going (on_rows (counted row col_count done) m c) m (λ x. f (members_of row n (suc done) first y)) (λ x. h (members_of row n (suc done) first y))
entry-going (keys_of row n done) c m f h =
    on-going (looking (λ m. key_end row done m.rows) m c) m (λ x. f (values_of row n done)) (λ x. h (values_of row n done))
entry-going (values_of row n done) c m f h =
    on-going (on_rows (counted row col_count done) m c) m (λ x. f (keys_of row n (suc done))) (λ x. h (keys_of row n (suc done)))
entry-going strange c m f h = tt

pop-going : (ts : List Frame) (c : Cursor) (m : Memory) → Going (pop ts c m)
unfolding pop
pop-going [] c m = tt
pop-going (f ∷ ts) c m = entry-going (task_of f) c m (λ t. go (pop ts) ts t) (λ t. go-going (pop ts) (pop-going ts) ts t)

module _ (ts : List Frame) where
  onward-going : (t : Task) (c : Cursor) (m : Memory) → Going (onward ts t c m)
  onward-going t c m = go-going (pop ts) (pop-going ts) ts t c m

  ends-going : (f : Decision Unit) (c : Cursor) (m : Memory) → Going (ends ts f c m)
  ends-going f c m = on-going (f m c) m (λ x. pop ts) (λ x. pop-going ts)

  keyed-going : (p : Pairing) (s : Span) (n : ℕ) (c : Cursor) (m : Memory) → Going (keyed ts p s n c m)
  unfolding keyed
  keyed-going (assoc row n done) s zero c m = onward-going (items_of dense row n 0) c m
  keyed-going (dynamics row done) s zero c m = ends-going (on_rows (closed row)) c m
  keyed-going (assoc row n done) s (suc k) c m = tt
  keyed-going (dynamics row done) s (suc k) c m = tt

  members-going : (row : ℕ) (t : Trait) (c : Cursor) (m : Memory) → Going (members ts row t c m)
  members-going row t c m = onward-going (members_of row t.count 0 t.first t.dynamic) c m

  naming-going : (row : ℕ) (t : Trait) (n : ℕ) (c : Cursor) (m : Memory) → Going (naming ts row t n c m)
  unfolding naming
  naming-going row t zero c m = on-going (on_traits (trait_end t) m c) m (λ x. members ts row t) (λ x. members-going row t)
  naming-going row t (suc n) c m = tt

  had-going : (u : Use) (s : Span) (c : Cursor) (m : Memory) → Going (had ts u s c m)
  unfolding had
  had-going (for_string row) s c m =
      on-going (on_rows (bodied row s) m c) m (λ x. ends ts (on_rows (closed row))) (λ x. ends-going (on_rows (closed row)))
  had-going (for_key p) s c m = keyed-going p s s.size c m
  had-going (for_class row n y) s c m =
      on-going (on_rows (object_class row (trait_of s n y c)) m c) m (λ x. naming ts row (trait_of s n y c) n) (λ x. naming-going row (trait_of s n y c) n)
  had-going for_external s c m = tt
  had-going (for_name row t n) s c m = on-going (on_names (named s) m c) m (λ x. naming ts row t n) (λ x. naming-going row t n)
  had-going (for_vector row n) s c m =
      on-going (looking (λ m. starred s m.store) m c) m
      (λ star c m. on (on_rows (vector_class row star s) m c) m (λ x. onward ts (items_of vector row n 0)))
      (λ star c m. on-going (on_rows (vector_class row star s) m c) m (λ x. onward ts (items_of vector row n 0)) (λ x. onward-going (items_of vector row n 0)))

  text-going : (x : Text) (s : Span) (valid : Bool) (c : Cursor) (m : Memory) → Going (text_done ts x s valid c m)
  unfolding text_done
  text-going (xml_text row) s valid c m =
      on-going (looking (λ m. judged valid) m c) m (λ x. ends ts (on_rows (closed row))) (λ x. ends-going (on_rows (closed row)))
  text-going (table_text u) s valid c m = on-going (on_strings (text_end s valid) m c) m (λ s. had ts u s) (λ s. had-going u s)

  string-going : (u : Use) (z : Size) (c : Cursor) (m : Memory) → Going (string_sized ts u z c m)
  unfolding string_sized
  string-going u (Old i) c m = on-going (looking (λ m. old_text i m.strings) m c) m (λ s. had ts u s) (λ s. had-going u s)
  string-going u (New zero) c m = had-going u no_span c m
  string-going u (New (suc n)) c m =
      on-going (looking (λ m. reserved (suc n) m.store) m c) m (λ s c m. on (reserved_for u s m c) m (λ x. wait (at_text (table_text u) s n 0) ts))
      (λ s c m. on-going (reserved_for u s m c) m (λ x. wait (at_text (table_text u) s n 0) ts) (λ x c m. tt))

  roomy-going : (row n : ℕ) (c : Cursor) (m : Memory) (f : Span → Cursor → Memory → State) → ((s : Span) (c : Cursor) (m : Memory) → Going (f s c m))
      → Going (roomy row n c m f)
  unfolding roomy
  roomy-going row zero c m f h = h no_span c m
  roomy-going row (suc n) c m f h =
      on-going (looking (λ m. reserved (suc n) m.store) m c) m (λ s c m. on (on_rows (bodied row s) m c) m (λ x. f s))
      (λ s c m. on-going (on_rows (bodied row s) m c) m (λ x. f s) (λ x. h s))

  texting-going : (row : ℕ) (s : Span) (n : ℕ) (c : Cursor) (m : Memory) → Going (texting ts row s n c m)
  unfolding texting
  texting-going row s zero c m = ends-going (on_rows (closed row)) c m
  texting-going row s (suc n) c m = tt

  filling-going : (r : Raw) (s : Span) (n : ℕ) (c : Cursor) (m : Memory) → Going (filling ts r s n c m)
  unfolding filling
  filling-going r s zero c m = ends-going (on_rows (closed (raw_row r))) c m
  filling-going r s (suc n) c m = tt

  opened-going : (row : ℕ) (b : Body) (n : ℕ) (c : Cursor) (m : Memory) → Going (opened ts row b n c m)
  unfolding opened
  opened-going row xml n c m = roomy-going row n c m (λ s. texting ts row s n) (λ s. texting-going row s n)
  opened-going row date n c m = tt
  opened-going row array n c m = tt
  opened-going row bytes n c m = roomy-going row n c m (λ s. filling ts (byte_array row) s n) (λ s. filling-going (byte_array row) s n)
  opened-going row (raw w) n c m = roomy-going row (n * width_of w) c m (λ s. wait (at_flag (raw_flag row w s)) ts) (λ s c m. tt)
  opened-going row objects n c m = tt
  opened-going row dictionary n c m = tt

  body-going : (row : ℕ) (b : Body) (z : Size) (c : Cursor) (m : Memory) → Going (body_sized ts row b z c m)
  unfolding body_sized
  body-going row b (Old i) c m = ends-going (λ m. on_rows (referred row i m.objects) m) c m
  body-going row b (New n) c m = on-going (on_objects (entered row) m c) m (λ x. opened ts row b n) (λ x. opened-going row b n)

  object-going : (row : ℕ) (z : Shape) (c : Cursor) (m : Memory) → Going (object_shaped ts row z c m)
  unfolding object_shaped
  object-going row (Object i) c m = ends-going (λ m. on_rows (referred row i m.objects) m) c m
  object-going row (Known i) c m =
      on-going (on_objects (entered row) m c) m
      (λ x c m. on (looking (λ m. old_trait i m.traits) m c) m (λ t c m. on (on_rows (object_class row t) m c) m (λ x. members ts row t)))
      (λ x c m. on-going (looking (λ m. old_trait i m.traits) m c) m (λ t c m. on (on_rows (object_class row t) m c) m (λ x. members ts row t))
      (λ t c m. on-going (on_rows (object_class row t) m c) m (λ x. members ts row t) (λ x. members-going row t)))
  object-going row External c m = on-going (on_objects (entered row) m c) m (λ x. wait (at_string for_external) ts) (λ x c m. tt)
  object-going row (Inline n y) c m = on-going (on_objects (entered row) m c) m (λ x. wait (at_string (for_class row n y)) ts) (λ x c m. tt)

  worded-going : (x : Word) (n : ℕ) (c : Cursor) (m : Memory) → Going (worded ts x n c m)
  unfolding worded
  worded-going (integer_word row) n c m = ends-going (on_rows (integer_end row n)) c m
  worded-going (object_word row) n c m = object-going row (shape_of n) c m
  worded-going (size_word row b) n c m = body-going row b (size_of n) c m
  worded-going (text_word u) n c m = string-going u (size_of n) c m

  number-going : (x : Number) (n : ℕ) (c : Cursor) (m : Memory) → Going (number_done ts x n c m)
  unfolding number_done
  number-going (double_bits row) n c m = ends-going (on_rows (numbered row n)) c m
  number-going (date_bits row) n c m = ends-going (on_rows (date_end row n)) c m

  flag-going : (x : Flag) (b : ℕ) (c : Cursor) (m : Memory) → Going (flag_done ts x b c m)
  unfolding flag_done
  flag-going (raw_flag row w s) b c m =
      on-going (on_rows (flagged row (fixed b)) m c) m (λ x. filling ts (raw_vector row w) s s.size) (λ x. filling-going (raw_vector row w) s s.size)
  flag-going (objects_flag row n) b c m = on-going (on_rows (flagged row (fixed b)) m c) m (λ x. wait (at_string (for_vector row n)) ts) (λ x c m. tt)
  flag-going (dictionary_flag row n) b c m = on-going (on_rows (flagged row (weak b)) m c) m (λ x. onward ts (keys_of row n 0)) (λ x. onward-going (keys_of row n 0))

  begun-going : (row : ℕ) (k : Kind) (c : Cursor) (m : Memory) → Going (begun ts row k c m)
  unfolding begun
  begun-going row leaf c m = pop-going ts c m
  begun-going row integer c m = tt
  begun-going row double c m = tt
  begun-going row string c m = tt
  begun-going row object c m = tt
  begun-going row (sized b) c m = tt

  part-going : (p : Option Part) (m : Memory) (more whole : ℕ → State) → ((n : ℕ) → Going (more n)) → ((n : ℕ) → Going (whole n)) → Going (on_part p m more whole)
  part-going None m more whole f g = tt
  part-going (Some (More n)) m more whole f g = f n
  part-going (Some (Whole n)) m more whole f g = g n

  pub act-going : (x : Mode) (b : ℕ) (c : Cursor) (m : Memory) → Going (act x b ts c m)
  unfolding act
  act-going (at_marker k) b c m =
      on-going (on_rows (marker (shown k) (open_limit - length ts) b) m c) m (λ row. begun ts row (kind_of b)) (λ row. begun-going row (kind_of b))
  act-going (at_word w left n) b c m =
      part-going (part_of left n b) m (λ n. wait (at_word w (left - 1) n) ts c m) (λ n. worded ts w n c m) (λ n. tt) (λ n. worded-going w n c m)
  act-going (at_number d left n) b c m =
      part-going (digit_of left n b) m (λ n. wait (at_number d (left - 1) n) ts c m) (λ n. number_done ts d n c m) (λ n. tt) (λ n. number-going d n c m)
  act-going (at_flag f) b c m = flag-going f b c m
  act-going (at_text x s zero t) b c m =
      on-going (on_store (stored s zero b) m c) m (λ _. text_done ts x s (eqb (step_of t b) 0)) (λ _. text-going x s (eqb (step_of t b) 0))
  act-going (at_text x s (suc n) t) b c m = on-going (on_store (stored s (suc n) b) m c) m (λ _. wait (at_text x s n (step_of t b)) ts) (λ _ c m. tt)
  act-going (at_raw r s n) b c m =
      on-going (on_store (stored s n b) m c) m (λ _ c m. on (raw_grown r s n m c) m (λ _. filling ts r s n))
      (λ _ c m. on-going (raw_grown r s n m c) m (λ _. filling ts r s n) (λ _. filling-going r s n))
  act-going astray b c m = tt
