-- The reading byte by byte: what a state waits for, and what the next byte makes of it. The decisions are Decide's, one waiting point at a time:
-- `act` by the mode; then `worded`, `number_done`, `flag_done`, `text_done`; then `had`, `opened`; then `onward` and `pop`.
use Rattle.std.specs.Prelude.{Option, Some, None, Bool, cond, List, [], ◌∷◌, ℕ, zero, suc, ◌+◌, ◌*◌, ◌-◌, leb, eqb, length}
use Rattle.rows.specs.declared.Cursor.{Cursor}
use Rattle.rows.specs.declared.Span.{Span}
use Rattle.rows.specs.declared.Key.{Key}
use Rattle.rows.specs.declared.Trait.{Trait}
use Rattle.format.specs.Refusals as no
use Rattle.format.specs.Codes.{task_pairs, task_dynamics, task_dense, task_vector, task_members, task_keys, task_values}
use Rattle.format.specs.declared.Frame.{Frame}
use Rattle.rows.specs.Memory.{Memory, fresh, zeroed, fault_of, message_limit, open_limit, col_count, col_count2, no_span, no_key, key_of}
use Rattle.wire.specs.declared.Part.{Part}
use Rattle.wire.specs.declared.Part.TheVariants.{More, Whole}
use Rattle.wire.specs.declared.Size.{Size}
use Rattle.wire.specs.declared.Size.TheVariants.{Old, New}
use Rattle.wire.specs.declared.Shape.{Shape}
use Rattle.wire.specs.declared.Shape.TheVariants.{Object, Known, External, Inline}
use Rattle.wire.specs.U29.{part_of, word_more}
use Rattle.wire.specs.Word.{size_of, shape_of}
use Rattle.wire.specs.Big.{digit_of, number_more}
use Rattle.utf8.specs.States.{step_of}
use Rattle.format.specs.Decide.{Out, stop, give, Decision, looking, on_rows, on_store, on_strings, on_objects, on_traits, on_names, Width}
use Rattle.format.specs.Decide.{width_of, Body, xml, date, array, bytes, raw, objects, dictionary, Kind, leaf, integer, double, string, object, sized}
use Rattle.format.specs.Decide.{kind_of, marker, closed, numbered, integer_end, date_end, bodied, object_class, vector_class, fixed, weak, flagged}
use Rattle.format.specs.Decide.{counted, key_end, grown, old_text, reserved, stored, judged, text_end, entered, referred, old_trait, trait_of, named, trait_end}
use Rattle.format.specs.Decide.{sealed_key, starred}
use Rattle.format.specs.Reading.{Ended, finished, refused, refusal, taken}

-- ---- what a state holds

-- pairs up to an empty key: of an array, with so many values to follow; of an object
pub data Pairing : Type 0 where
  assoc : (row left done : ℕ) → Pairing
  dynamics : (row done : ℕ) → Pairing

-- items of an array or of an object vector, and the column that counts them
pub data Items : Type 0 where
  dense vector : Items

abbrev pub count_of : Items → ℕ
count_of dense = col_count2
count_of vector = col_count

-- what an open value still has to read, so many left and so many done: pairs; items; sealed members, with the trait's first name and whether dynamic ones
-- follow; pairs of a dictionary, with a key or a value in work
pub data Task : Type 0 where
  pairs_of : Pairing → Task
  items_of : Items → (row left done : ℕ) → Task
  members_of : (row left done first dynamic : ℕ) → Task
  keys_of values_of : (row left done : ℕ) → Task
  strange : Task

-- a task as the numbers of a frame: 1 pairs of an array, 2 dynamic members, 3 items of an array, 4 of a vector, 5 sealed members, 6 a dictionary's keys, 7 values
abbrev pub frame : ℕ → ℕ → ℕ → ℕ → ℕ → ℕ → Frame
frame task row left done first y = record { task = task; row = row; left = left; done = done; first = first; dynamic = y }

unfoldable pub task_of : Frame → Task
task_of f =
    cond (eqb f.task task_pairs) (pairs_of (assoc f.row f.left f.done))
    (cond (eqb f.task task_dynamics) (pairs_of (dynamics f.row f.done))
    (cond (eqb f.task task_dense) (items_of dense f.row f.left f.done)
    (cond (eqb f.task task_vector) (items_of vector f.row f.left f.done)
    (cond (eqb f.task task_members) (members_of f.row f.left f.done f.first f.dynamic)
    (cond (eqb f.task task_keys) (keys_of f.row f.left f.done)
    (cond (eqb f.task task_values) (values_of f.row f.left f.done) strange))))))

unfoldable pub frame_of : Task → Frame
frame_of (pairs_of (assoc row left done)) = frame task_pairs row left done 0 0
frame_of (pairs_of (dynamics row done)) = frame task_dynamics row 0 done 0 0
frame_of (items_of dense row left done) = frame task_dense row left done 0 0
frame_of (items_of vector row left done) = frame task_vector row left done 0 0
frame_of (members_of row left done first y) = frame task_members row left done first y
frame_of (keys_of row left done) = frame task_keys row left done 0 0
frame_of (values_of row left done) = frame task_values row left done 0 0
frame_of strange = frame 0 0 0 0 0 0

-- whose string it is: a string's row; the next key of pairs; the class of an object with so many names, dynamic or not; that of an externalizable one;
-- a name of a trait, so many more to come; the class of a vector with so many entries
pub data Use : Type 0 where
  for_string : (row : ℕ) → Use
  for_key : Pairing → Use
  for_class : (row names dynamic : ℕ) → Use
  for_external : Use
  for_name : (row : ℕ) → Trait → (more : ℕ) → Use
  for_vector : (row entries : ℕ) → Use

-- whose text it is: an XML's row; or a string that enters the table
pub data Text : Type 0 where
  xml_text : (row : ℕ) → Text
  table_text : Use → Text

-- whose word it is
pub data Word : Type 0 where
  integer_word object_word : (row : ℕ) → Word
  size_word : (row : ℕ) → Body → Word
  text_word : Use → Word

-- whose eight bytes they are
pub data Number : Type 0 where
  double_bits date_bits : (row : ℕ) → Number

-- whose flag it is: a raw vector's, with its span; an object vector's or a dictionary's, of so many entries
pub data Flag : Type 0 where
  raw_flag : (row : ℕ) → Width → Span → Flag
  objects_flag dictionary_flag : (row entries : ℕ) → Flag

-- whose raw bytes they are: a byte array's; a vector's
pub data Raw : Type 0 where
  byte_array : (row : ℕ) → Raw
  raw_vector : (row : ℕ) → Width → Raw

-- what the next byte is: a marker, for a row with a key; of a word or of eight bytes, so many left after it, the number so far; a flag; of a text's or a
-- raw body's span, so many left after it, the text test so far
pub data Mode : Type 0 where
  at_marker : Key → Mode
  at_word : Word → (left part : ℕ) → Mode
  at_number : Number → (left part : ℕ) → Mode
  at_flag : Flag → Mode
  at_text : Text → Span → (left test : ℕ) → Mode
  at_raw : Raw → Span → (left : ℕ) → Mode
  astray : Mode

-- waiting, with the frames of the values around, innermost first; ended; or never begun
pub data State : Type 0 where
  wait : Mode → List Frame → Cursor → Memory → State
  over : Ended → State
  none : Memory → State

-- ---- after a decision

abbrev pub on : {A : Type 0} → Out Memory A → Memory → (A → Cursor → Memory → State) → State
on (stop n told place) m f = over (refusal n told place m)
on (give a m c) _ f = f a c m

-- 12
abbrev pub broken : Memory → State
broken m = over (refusal no.lost 0 0 m)

-- a string is next
abbrev pub at_string : Use → Mode
at_string u = at_word (text_word u) word_more 0

-- a task goes on with what it has left; k is what comes when its value is finished
unfoldable pub go : (Cursor → Memory → State) → List Frame → Task → Cursor → Memory → State
go k ts (pairs_of p) c m = wait (at_string (for_key p)) ts c m
go k ts (items_of i row zero done) c m = on (on_rows (closed row) m c) m (λ x c m. k c m)
go k ts (items_of i row (suc n) done) c m = wait (at_marker no_key) (frame_of (items_of i row n done) ∷ ts) c m
go k ts (members_of row zero done first zero) c m = on (on_rows (closed row) m c) m (λ x c m. k c m)
go k ts (members_of row zero done first (suc y)) c m = wait (at_string (for_key (dynamics row 0))) ts c m
go k ts (members_of row (suc n) done first y) c m =
    on (looking (λ m. sealed_key (first + done) m.names) m c) m (λ key c m. wait (at_marker key) (frame_of (members_of row n done first y) ∷ ts) c m)
go k ts (keys_of row zero done) c m = on (on_rows (closed row) m c) m (λ x c m. k c m)
go k ts (keys_of row (suc n) done) c m = wait (at_marker no_key) (frame_of (keys_of row n done) ∷ ts) c m
go k ts (values_of row n done) c m = wait (at_marker no_key) (frame_of (values_of row n done) ∷ ts) c m
go k ts strange c m = broken m

-- the entry in work of a task is finished and counted: what the task has left
unfoldable pub entry : Task → Cursor → Memory → (Task → Cursor → Memory → State) → State
entry (pairs_of (assoc row n done)) c m f = on (on_rows (counted row col_count done) m c) m (λ x. f (pairs_of (assoc row n (suc done))))
entry (pairs_of (dynamics row done)) c m f = on (on_rows (counted row col_count2 done) m c) m (λ x. f (pairs_of (dynamics row (suc done))))
entry (items_of i row n done) c m f = on (on_rows (counted row (count_of i) done) m c) m (λ x. f (items_of i row n (suc done)))
entry (members_of row n done first y) c m f = on (on_rows (counted row col_count done) m c) m (λ x. f (members_of row n (suc done) first y))
entry (keys_of row n done) c m f = on (looking (λ m. key_end row done m.rows) m c) m (λ x. f (values_of row n done))
entry (values_of row n done) c m f = on (on_rows (counted row col_count done) m c) m (λ x. f (keys_of row n (suc done)))
entry strange c m f = broken m

-- a value is finished
unfoldable pub pop : List Frame → Cursor → Memory → State
pop [] c m = over (finished c m)
pop (f ∷ ts) c m = entry (task_of f) c m (λ t. go (pop ts) ts t)

-- the value in work goes on with a task; it is finished by a decision
abbrev pub onward : List Frame → Task → Cursor → Memory → State
onward ts t c m = go (pop ts) ts t c m

abbrev pub ends : List Frame → Decision Unit → Cursor → Memory → State
ends ts f c m = on (f m c) m (λ x. pop ts)

-- ---- strings and texts

-- a key is read, of a given size: an empty one ends the pairs
unfoldable pub keyed : List Frame → Pairing → Span → ℕ → Cursor → Memory → State
keyed ts (assoc row n done) s zero c m = onward ts (items_of dense row n 0) c m
keyed ts (dynamics row done) s zero c m = ends ts (on_rows (closed row)) c m
keyed ts (assoc row n done) s (suc k) c m = wait (at_marker (key_of s)) (frame_of (pairs_of (assoc row n done)) ∷ ts) c m
keyed ts (dynamics row done) s (suc k) c m = wait (at_marker (key_of s)) (frame_of (pairs_of (dynamics row done)) ∷ ts) c m

abbrev pub members : List Frame → ℕ → Trait → Cursor → Memory → State
members ts row t = onward ts (members_of row t.count 0 t.first t.dynamic)

-- so many names of a trait are to come
unfoldable pub naming : List Frame → ℕ → Trait → ℕ → Cursor → Memory → State
naming ts row t zero c m = on (on_traits (trait_end t) m c) m (λ x. members ts row t)
naming ts row t (suc n) c m = wait (at_string (for_name row t n)) ts c m

-- a string is there
unfoldable pub had : List Frame → Use → Span → Cursor → Memory → State
had ts (for_string row) s c m = on (on_rows (bodied row s) m c) m (λ x. ends ts (on_rows (closed row)))
had ts (for_key p) s c m = keyed ts p s s.size c m
had ts (for_class row n y) s c m = on (on_rows (object_class row (trait_of s n y c)) m c) m (λ x. naming ts row (trait_of s n y c) n)
had ts for_external s c m = over (refusal no.externalizable 0 c.at m)
had ts (for_name row t n) s c m = on (on_names (named s) m c) m (λ x. naming ts row t n)
had ts (for_vector row n) s c m =
    on (looking (λ m. starred s m.store) m c) m (λ star c m. on (on_rows (vector_class row star s) m c) m (λ x. onward ts (items_of vector row n 0)))

-- the last byte of a text, with the verdict
unfoldable pub text_done : List Frame → Text → Span → Bool → Cursor → Memory → State
text_done ts (xml_text row) s valid c m = on (looking (λ m. judged valid) m c) m (λ x. ends ts (on_rows (closed row)))
text_done ts (table_text u) s valid c m = on (on_strings (text_end s valid) m c) m (λ s. had ts u s)

-- a string's span is reserved: its row shows it at once
unfoldable pub reserved_for : Use → Span → Decision Unit
reserved_for (for_string row) s = on_rows (bodied row s)
reserved_for (for_key p) s = λ m c. give tt m c
reserved_for (for_class row n y) s = λ m c. give tt m c
reserved_for for_external s = λ m c. give tt m c
reserved_for (for_name row t n) s = λ m c. give tt m c
reserved_for (for_vector row n) s = λ m c. give tt m c

-- ---- words

unfoldable pub string_sized : List Frame → Use → Size → Cursor → Memory → State
string_sized ts u (Old i) c m = on (looking (λ m. old_text i m.strings) m c) m (λ s. had ts u s)
string_sized ts u (New zero) c m = had ts u no_span c m
string_sized ts u (New (suc n)) c m =
    on (looking (λ m. reserved (suc n) m.store) m c) m (λ s c m. on (reserved_for u s m c) m (λ x. wait (at_text (table_text u) s n 0) ts))

-- room for a body of n bytes
unfoldable pub roomy : ℕ → ℕ → Cursor → Memory → (Span → Cursor → Memory → State) → State
roomy row zero c m f = f no_span c m
roomy row (suc n) c m f = on (looking (λ m. reserved (suc n) m.store) m c) m (λ s c m. on (on_rows (bodied row s) m c) m (λ x. f s))

-- a text, or a raw body, of n bytes is next
unfoldable pub texting : List Frame → ℕ → Span → ℕ → Cursor → Memory → State
texting ts row s zero c m = ends ts (on_rows (closed row)) c m
texting ts row s (suc n) c m = wait (at_text (xml_text row) s n 0) ts c m

abbrev pub raw_row : Raw → ℕ
raw_row (byte_array row) = row
raw_row (raw_vector row w) = row

unfoldable pub filling : List Frame → Raw → Span → ℕ → Cursor → Memory → State
filling ts r s zero c m = ends ts (on_rows (closed (raw_row r))) c m
filling ts r s (suc n) c m = wait (at_raw r s n) ts c m

unfoldable pub opened : List Frame → ℕ → Body → ℕ → Cursor → Memory → State
opened ts row xml n c m = roomy row n c m (λ s. texting ts row s n)
opened ts row date n c m = wait (at_number (date_bits row) number_more 0) ts c m
opened ts row array n c m = wait (at_string (for_key (assoc row n 0))) ts c m
opened ts row bytes n c m = roomy row n c m (λ s. filling ts (byte_array row) s n)
opened ts row (raw w) n c m = roomy row (n * width_of w) c m (λ s. wait (at_flag (raw_flag row w s)) ts)
opened ts row objects n c m = wait (at_flag (objects_flag row n)) ts c m
opened ts row dictionary n c m = wait (at_flag (dictionary_flag row n)) ts c m

unfoldable pub body_sized : List Frame → ℕ → Body → Size → Cursor → Memory → State
body_sized ts row body (Old i) c m = ends ts (λ m. on_rows (referred row i m.objects) m) c m
body_sized ts row body (New n) c m = on (on_objects (entered row) m c) m (λ x. opened ts row body n)

unfoldable pub object_shaped : List Frame → ℕ → Shape → Cursor → Memory → State
object_shaped ts row (Object i) c m = ends ts (λ m. on_rows (referred row i m.objects) m) c m
object_shaped ts row (Known i) c m =
    on (on_objects (entered row) m c) m (λ x c m. on (looking (λ m. old_trait i m.traits) m c) m (λ t c m.
    on (on_rows (object_class row t) m c) m (λ x. members ts row t)))
object_shaped ts row External c m = on (on_objects (entered row) m c) m (λ x. wait (at_string for_external) ts)
object_shaped ts row (Inline n y) c m = on (on_objects (entered row) m c) m (λ x. wait (at_string (for_class row n y)) ts)

-- a word is whole
unfoldable pub worded : List Frame → Word → ℕ → Cursor → Memory → State
worded ts (integer_word row) w c m = ends ts (on_rows (integer_end row w)) c m
worded ts (object_word row) w c m = object_shaped ts row (shape_of w) c m
worded ts (size_word row body) w c m = body_sized ts row body (size_of w) c m
worded ts (text_word u) w c m = string_sized ts u (size_of w) c m

-- eight bytes are whole
unfoldable pub number_done : List Frame → Number → ℕ → Cursor → Memory → State
number_done ts (double_bits row) bits c m = ends ts (on_rows (numbered row bits)) c m
number_done ts (date_bits row) bits c m = ends ts (on_rows (date_end row bits)) c m

-- a flag is there
unfoldable pub flag_done : List Frame → Flag → ℕ → Cursor → Memory → State
flag_done ts (raw_flag row w s) b c m = on (on_rows (flagged row (fixed b)) m c) m (λ x. filling ts (raw_vector row w) s s.size)
flag_done ts (objects_flag row n) b c m = on (on_rows (flagged row (fixed b)) m c) m (λ x. wait (at_string (for_vector row n)) ts)
flag_done ts (dictionary_flag row n) b c m = on (on_rows (flagged row (weak b)) m c) m (λ x. onward ts (keys_of row n 0))

-- a raw byte is stored, so many left after it
unfoldable pub raw_grown : Raw → Span → ℕ → Decision Unit
raw_grown (byte_array row) s n = λ m c. give tt m c
raw_grown (raw_vector row w) s n = on_rows (grown row w s n)

-- ---- markers

unfoldable pub begun : List Frame → ℕ → Kind → Cursor → Memory → State
begun ts row leaf c m = pop ts c m
begun ts row integer c m = wait (at_word (integer_word row) word_more 0) ts c m
begun ts row double c m = wait (at_number (double_bits row) number_more 0) ts c m
begun ts row string c m = wait (at_string (for_string row)) ts c m
begun ts row object c m = wait (at_word (object_word row) word_more 0) ts c m
begun ts row (sized body) c m = wait (at_word (size_word row body) word_more 0) ts c m

-- ---- the step

-- the key that a new row shows: with mark 0 it has none
unfoldable pub shown : Key → Key
shown k = cond (eqb k.mark 0) no_key k

-- after a byte of a number
abbrev pub on_part : Option Part → Memory → (ℕ → State) → (ℕ → State) → State
on_part None m more whole = broken m
on_part (Some (More n)) m more whole = more n
on_part (Some (Whole n)) m more whole = whole n

-- byte b for a mode, the cursor already past it
unfoldable pub act : Mode → ℕ → List Frame → Cursor → Memory → State
act (at_marker k) b ts c m = on (on_rows (marker (shown k) (open_limit - length ts) b) m c) m (λ row. begun ts row (kind_of b))
act (at_word w left n) b ts c m = on_part (part_of left n b) m (λ n. wait (at_word w (left - 1) n) ts c m) (λ n. worded ts w n c m)
act (at_number d left n) b ts c m = on_part (digit_of left n b) m (λ n. wait (at_number d (left - 1) n) ts c m) (λ n. number_done ts d n c m)
act (at_flag f) b ts c m = flag_done ts f b c m
act (at_text x s zero t) b ts c m = on (on_store (stored s zero b) m c) m (λ _. text_done ts x s (eqb (step_of t b) 0))
act (at_text x s (suc n) t) b ts c m = on (on_store (stored s (suc n) b) m c) m (λ _. wait (at_text x s n (step_of t b)) ts)
act (at_raw r s n) b ts c m = on (on_store (stored s n b) m c) m (λ _ c m. on (raw_grown r s n m c) m (λ _. filling ts r s n))
act astray b ts c m = broken m

-- one byte; what has ended takes none
unfoldable pub step : ℕ → State → State
step b (over e) = over e
step b (none m) = broken m
step b (wait x ts c m) = cond (leb message_limit c.at) (over (refusal no.too_long 0 c.at m)) (act x b ts (taken c) m)

unfoldable pub run : State → List ℕ → State
run s [] = s
run s (b ∷ bs) = run (step b s) bs

-- the end is declared
unfoldable pub end : State → Ended
end (over e) = e
end (none m) = refusal no.lost 0 0 m
end (wait x ts c m) = refusal no.unexpected_end 0 c.at m

-- the lowest faulty loan is given, 0 where there is none
abbrev pub begin_at : ℕ → Memory → State
begin_at zero m = wait (at_marker no_key) [] fresh (zeroed m)
begin_at (suc loan) m = over (refused no.bad_loan (suc loan) 0 m)

unfoldable pub begin : Memory → State
begin m = begin_at (fault_of m) m
