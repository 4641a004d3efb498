-- A state as plain numbers, of which any are a state: how they are read, written back, and stepped. What a mode has no use for is not read, and written as 0.
use Rattle.std.specs.Prelude.{Bool, true, false, cond, ◌&&◌, ◌||◌, List, [], ◌∷◌, ℕ, zero, suc, ◌+◌, ◌*◌, ◌-◌, ◌/◌, ◌^◌, leb, ltb, eqb, length, get_or}
use Rattle.std.proofs.lemmas.List.Edits.{sets}
use Rattle.rows.specs.declared.Cursor.{Cursor}
use Rattle.rows.specs.declared.Span.{Span}
use Rattle.rows.specs.declared.Key.{Key}
use Rattle.rows.specs.declared.Trait.{Trait}
use Rattle.rows.specs.Memory.{Memory, fresh, fault_of, message_limit, open_limit, open_most, rows_most, store_most, row_width, span_width, trait_width, span}
use Rattle.rows.specs.Memory.{no_span, span_used}
use Rattle.wire.specs.U29.{word_more, word_bits}
use Rattle.wire.specs.Big.{number_more, number_bits}
use Rattle.utf8.specs.States.{text_broken}
use Rattle.format.specs.Refusals as no
use Rattle.format.specs.Codes.{status_waiting, status_finished, status_refused, mode_marker, mode_word, mode_number, mode_flag, mode_text}
use Rattle.format.specs.Codes.{mode_raw, purpose_integer, purpose_double, purpose_object, purpose_date_bits, purpose_xml, purpose_date, purpose_array}
use Rattle.format.specs.Codes.{purpose_byte_array, purpose_fours, purpose_eights, purpose_object_vector, purpose_dictionary, purpose_string, purpose_key, purpose_dynamic_key}
use Rattle.format.specs.Codes.{purpose_class, purpose_external, purpose_name, purpose_vector_class}
use Rattle.rows.specs.declared.lent.Lent.{Lent}
unfoldable pub use Rattle.rows.specs.Lent.{lent_of}
use Rattle.format.specs.declared.Work.{Work}
use Rattle.format.specs.declared.Head.{Head}
use Rattle.format.specs.declared.Frame.{Frame}
use Rattle.format.specs.Decide.{class_of, Body, xml, date, array, bytes, raw, objects, dictionary, four, eight}
use Rattle.format.specs.Reading.{finished, refused}
use Rattle.format.specs.Step.{assoc, dynamics, Use, for_string, for_key, for_class, for_external, for_name, for_vector, Text, xml_text, table_text}
use Rattle.format.specs.Step.{Word, integer_word, object_word, size_word, text_word, Number, double_bits, date_bits, Flag, raw_flag, objects_flag, dictionary_flag}
use Rattle.format.specs.Step.{Raw, byte_array, raw_vector, raw_row, Mode, at_marker, at_word, at_number, at_flag, at_text, at_raw, astray}
use Rattle.format.specs.Step.{frame, State, wait, over, none, broken, step}

-- the head, and the frames of the open values, outermost first, each of six numbers
pub record Numbers : Type 0 where
  pub head : Head
  pub frames : List ℕ

abbrev pub frame_width : ℕ
frame_width = 6

-- the numbers of the frames of as many values as can be open
abbrev pub frames_size : ℕ
frames_size = open_most * frame_width

-- ---- frames

unfoldable pub frame_at : List ℕ → ℕ → Frame
frame_at F i =
    frame (get_or F (i * frame_width) 0) (get_or F (i * frame_width + 1) 0) (get_or F (i * frame_width + 2) 0) (get_or F (i * frame_width + 3) 0)
    (get_or F (i * frame_width + 4) 0) (get_or F (i * frame_width + 5) 0)

-- the frames of n open values, innermost first
unfoldable pub frames_of : List ℕ → ℕ → List Frame
frames_of F zero = []
frames_of F (suc n) = frame_at F n ∷ frames_of F n

abbrev pub frame_numbers : Frame → List ℕ
frame_numbers f = f.task ∷ f.row ∷ f.left ∷ f.done ∷ f.first ∷ f.dynamic ∷ []

-- frames laid in their places; those above them are left as they are
unfoldable pub laid : List ℕ → List Frame → List ℕ
laid F [] = F
laid F (f ∷ fs) = sets (laid F fs) (length fs * frame_width) (frame_numbers f)

-- ---- modes

-- whose body
abbrev pub with_body : {A : Type 0} → A → ℕ → (Body → A) → A
with_body a p f =
    cond (eqb p purpose_xml) (f xml) (cond (eqb p purpose_date) (f date) (cond (eqb p purpose_array) (f array) (cond (eqb p purpose_byte_array) (f bytes) (cond (eqb p purpose_fours) (f (raw four))
    (cond (eqb p purpose_eights) (f (raw eight)) (cond (eqb p purpose_object_vector) (f objects) (cond (eqb p purpose_dictionary) (f dictionary) a)))))))

unfoldable pub body_purpose : Body → ℕ
body_purpose xml = purpose_xml
body_purpose date = purpose_date
body_purpose array = purpose_array
body_purpose bytes = purpose_byte_array
body_purpose (raw four) = purpose_fours
body_purpose (raw eight) = purpose_eights
body_purpose objects = purpose_object_vector
body_purpose dictionary = purpose_dictionary

-- whose string
abbrev pub with_use : {A : Type 0} → A → Work → (Use → A) → A
with_use a w f =
    cond (eqb w.purpose purpose_string) (f (for_string w.row))
    (cond (eqb w.purpose purpose_key) (f (for_key (assoc w.row w.count w.done)))
    (cond (eqb w.purpose purpose_dynamic_key) (f (for_key (dynamics w.row w.done)))
    (cond (eqb w.purpose purpose_class) (f (for_class w.row w.count w.kind.dynamic))
    (cond (eqb w.purpose purpose_external) (f for_external)
    (cond (eqb w.purpose purpose_name) (f (for_name w.row w.kind w.count))
    (cond (eqb w.purpose purpose_vector_class) (f (for_vector w.row w.count)) a))))))

-- whose word, number, flag, text and raw bytes, by the purpose
abbrev pub with_word : {A : Type 0} → A → Work → (Word → A) → A
with_word a w f =
    cond (eqb w.purpose purpose_integer) (f (integer_word w.row))
    (cond (eqb w.purpose purpose_object) (f (object_word w.row))
    (cond (leb w.purpose purpose_dictionary) (with_body a w.purpose (λ b. f (size_word w.row b))) (with_use a w (λ u. f (text_word u)))))

abbrev pub with_number : {A : Type 0} → A → Work → (Number → A) → A
with_number a w f = cond (eqb w.purpose purpose_double) (f (double_bits w.row)) (cond (eqb w.purpose purpose_date_bits) (f (date_bits w.row)) a)

abbrev pub with_flag : {A : Type 0} → A → Work → (Flag → A) → A
with_flag a w f =
    cond (eqb w.purpose purpose_fours) (f (raw_flag w.row four w.span))
    (cond (eqb w.purpose purpose_eights) (f (raw_flag w.row eight w.span))
    (cond (eqb w.purpose purpose_object_vector) (f (objects_flag w.row w.count))
    (cond (eqb w.purpose purpose_dictionary) (f (dictionary_flag w.row w.count)) a)))

abbrev pub with_text : {A : Type 0} → A → Work → (Text → A) → A
with_text a w f = cond (eqb w.purpose purpose_xml) (f (xml_text w.row)) (with_use a w (λ u. f (table_text u)))

abbrev pub with_raw : {A : Type 0} → A → ℕ → ℕ → (Raw → A) → A
with_raw a purpose row f =
    cond (eqb purpose purpose_byte_array) (f (byte_array row)) (cond (eqb purpose purpose_fours) (f (raw_vector row four)) (cond (eqb purpose purpose_eights) (f (raw_vector row eight)) a))

abbrev pub work_key : Work → Key
work_key w = record { mark = w.purpose; begin = w.span.begin; size = w.span.size }

-- the mode of a work
unfoldable pub mode_of : Work → Mode
mode_of w =
    cond (eqb w.mode mode_marker) (at_marker (work_key w))
    (cond (eqb w.mode mode_word) (with_word astray w (λ x. at_word x w.left w.part))
    (cond (eqb w.mode mode_number) (with_number astray w (λ x. at_number x w.left w.part))
    (cond (eqb w.mode mode_flag) (with_flag astray w at_flag)
    (cond (eqb w.mode mode_text) (with_text astray w (λ x. at_text x w.span w.left w.part))
    (cond (eqb w.mode mode_raw) (with_raw astray w.purpose w.row (λ r. at_raw r w.span w.left))
    astray)))))

-- the numbers of a mode; the others are 0
abbrev pub work : ℕ → ℕ → ℕ → ℕ → ℕ → Span → Trait → ℕ → ℕ → Work
work mode purpose row left part s t count done =
    record { mode = mode; purpose = purpose; row = row; left = left; part = part; span = s; kind = t; count = count; done = done }

abbrev pub no_trait : Trait
no_trait = record { begin = 0; size = 0; dynamic = 0; first = 0; count = 0 }

abbrev pub of_dynamic : ℕ → Trait
of_dynamic y = record { begin = 0; size = 0; dynamic = y; first = 0; count = 0 }

abbrev pub no_work : Work
no_work = work 0 0 0 0 0 no_span no_trait 0 0

unfoldable pub use_work : ℕ → Use → ℕ → ℕ → Span → Work
use_work mode (for_string row) left part s = work mode purpose_string row left part s no_trait 0 0
use_work mode (for_key (assoc row count done)) left part s = work mode purpose_key row left part s no_trait count done
use_work mode (for_key (dynamics row done)) left part s = work mode purpose_dynamic_key row left part s no_trait 0 done
use_work mode (for_class row count y) left part s = work mode purpose_class row left part s (of_dynamic y) count 0
use_work mode for_external left part s = work mode purpose_external 0 left part s no_trait 0 0
use_work mode (for_name row t count) left part s = work mode purpose_name row left part s t count 0
use_work mode (for_vector row count) left part s = work mode purpose_vector_class row left part s no_trait count 0

unfoldable pub work_of : Mode → Work
work_of (at_marker k) = work mode_marker k.mark 0 0 0 (span k.begin k.size) no_trait 0 0
work_of (at_word (integer_word row) left part) = work mode_word purpose_integer row left part no_span no_trait 0 0
work_of (at_word (object_word row) left part) = work mode_word purpose_object row left part no_span no_trait 0 0
work_of (at_word (size_word row b) left part) = work mode_word (body_purpose b) row left part no_span no_trait 0 0
work_of (at_word (text_word u) left part) = use_work mode_word u left part no_span
work_of (at_number (double_bits row) left part) = work mode_number purpose_double row left part no_span no_trait 0 0
work_of (at_number (date_bits row) left part) = work mode_number purpose_date_bits row left part no_span no_trait 0 0
work_of (at_flag (raw_flag row w s)) = work mode_flag (body_purpose (raw w)) row 0 0 s no_trait 0 0
work_of (at_flag (objects_flag row count)) = work mode_flag purpose_object_vector row 0 0 no_span no_trait count 0
work_of (at_flag (dictionary_flag row count)) = work mode_flag purpose_dictionary row 0 0 no_span no_trait count 0
work_of (at_text (xml_text row) s left test) = work mode_text purpose_xml row left test s no_trait 0 0
work_of (at_text (table_text u) s left test) = use_work mode_text u left test s
work_of (at_raw (byte_array row) s left) = work mode_raw purpose_byte_array row left 0 s no_trait 0 0
work_of (at_raw (raw_vector row w) s left) = work mode_raw (body_purpose (raw w)) row left 0 s no_trait 0 0
work_of astray = no_work

-- ---- a state and its numbers

-- a finished reading uses no more than can be lent
abbrev pub finishable : Cursor → Bool
finishable c = leb c.rows rows_most && leb c.store store_most

-- waiting; finished or refused, with values in the ranges of a reading's; anything else was never begun
unfoldable pub state_of : Numbers → Memory → State
state_of n m =
    cond (eqb n.head.status status_waiting) (wait (mode_of n.head.work) (frames_of n.frames n.head.depth) n.head.cursor m)
    (cond (eqb n.head.status status_finished && finishable n.head.cursor) (over (finished n.head.cursor m))
    (cond (eqb n.head.status status_refused && no.sayable n.head.number n.head.told n.head.place)
    (over (refused n.head.number n.head.told n.head.place m))
    (none m)))

abbrev pub head : ℕ → ℕ → ℕ → ℕ → Lent → Cursor → ℕ → Work → Head
head status number told place lent c depth work =
    record { status = status; number = number; told = told; place = place; lent = lent; cursor = c; depth = depth; work = work }

-- the numbers of a state, over those that it had: the loans' lengths and the frames above the open ones stay
unfoldable pub numbers_of : Numbers → State → Numbers
numbers_of n (wait x ts c m) = record { head = head status_waiting 0 0 0 n.head.lent c (length ts) (work_of x); frames = laid n.frames ts }
numbers_of n (over (finished c m)) = record { head = head status_finished 0 0 0 n.head.lent c 0 no_work; frames = n.frames }
numbers_of n (over (refused number told place m)) = record { head = head status_refused number told place n.head.lent fresh 0 no_work; frames = n.frames }
numbers_of n (none m) = n

abbrev pub memory_of : State → Memory
memory_of (wait x ts c m) = m
memory_of (over (finished c m)) = m
memory_of (over (refused number told place m)) = m
memory_of (none m) = m

-- ---- the step on every state

unfoldable pub same_lent : Lent → Lent → Bool
same_lent a b =
    eqb a.rows b.rows && eqb a.store b.store && eqb a.strings b.strings && eqb a.objects b.objects
    && eqb a.traits b.traits && eqb a.names b.names

-- used counts lie within the loans
unfoldable pub counts_fit : Cursor → Memory → Bool
counts_fit c m =
    leb c.rows (length m.rows / row_width) && leb c.store (length m.store) && leb c.strings (length m.strings / span_width)
    && leb c.objects (length m.objects) && leb c.traits (length m.traits / trait_width) && leb c.names (length m.names / span_width)

-- a string's row is used; of a trait in the making its class too, and its first name is no more than the used names
unfoldable pub use_fits : Cursor → Use → Bool
use_fits c (for_string row) = ltb row c.rows
use_fits c (for_key (assoc row left done)) = ltb row c.rows
use_fits c (for_key (dynamics row done)) = ltb row c.rows
use_fits c (for_class row count y) = ltb row c.rows
use_fits c for_external = true
use_fits c (for_name row t count) = ltb row c.rows && span_used c (class_of t) && leb t.first c.names
use_fits c (for_vector row count) = ltb row c.rows

unfoldable pub word_fits : Cursor → Word → Bool
word_fits c (integer_word row) = ltb row c.rows
word_fits c (object_word row) = ltb row c.rows
word_fits c (size_word row b) = ltb row c.rows
word_fits c (text_word u) = use_fits c u

abbrev pub number_row : Number → ℕ
number_row (double_bits row) = row
number_row (date_bits row) = row

-- of a number of so many bytes behind its first, with so many bits each, `left` come after the next one, and those before it gave no more than they can
abbrev pub part_fits : ℕ → ℕ → ℕ → ℕ → Bool
part_fits most bits left part = leb left most && ltb part (2 ^ (bits * (most - left)))

-- a span is used, and what is left of it lies in it
abbrev pub body_fits : Cursor → Span → ℕ → Bool
body_fits c s left = span_used c s && ltb left s.size

-- the mode is one of ours, and what it holds lies in what is used
unfoldable pub mode_fits : Cursor → Mode → Bool
mode_fits c (at_marker k) = eqb k.mark 0 || span_used c (span k.begin k.size)
mode_fits c (at_word w left part) = word_fits c w && part_fits word_more word_bits left part
mode_fits c (at_number d left part) = ltb (number_row d) c.rows && part_fits number_more number_bits left part
mode_fits c (at_flag (raw_flag row w s)) = ltb row c.rows && span_used c s
mode_fits c (at_flag (objects_flag row count)) = ltb row c.rows
mode_fits c (at_flag (dictionary_flag row count)) = ltb row c.rows
mode_fits c (at_text (xml_text row) s left test) = ltb row c.rows && body_fits c s left && leb test text_broken
mode_fits c (at_text (table_text u) s left test) = use_fits c u && body_fits c s left && leb test text_broken
mode_fits c (at_raw r s left) = ltb (raw_row r) c.rows && body_fits c s left
mode_fits c astray = false

-- pairs done are below the used rows, since each has a row of its own
abbrev pub pairs_used : Cursor → Use → Bool
pairs_used c (for_string row) = true
pairs_used c (for_key (assoc row left done)) = ltb done c.rows
pairs_used c (for_key (dynamics row done)) = ltb done c.rows
pairs_used c (for_class row count y) = true
pairs_used c for_external = true
pairs_used c (for_name row t count) = true
pairs_used c (for_vector row count) = true

abbrev pub pairs_fit : Cursor → Mode → Bool
pairs_fit c (at_marker k) = true
pairs_fit c (at_word (integer_word row) left part) = true
pairs_fit c (at_word (object_word row) left part) = true
pairs_fit c (at_word (size_word row b) left part) = true
pairs_fit c (at_word (text_word u) left part) = pairs_used c u
pairs_fit c (at_number d left part) = true
pairs_fit c (at_flag f) = true
pairs_fit c (at_text (xml_text row) s left test) = true
pairs_fit c (at_text (table_text u) s left test) = pairs_used c u
pairs_fit c (at_raw r s left) = true
pairs_fit c astray = true

-- at a marker so many may be open as can be, of which 9 then judges; with a value in work one less
abbrev pub depth_fits : Mode → ℕ → Bool
depth_fits (at_marker k) depth = leb depth open_limit
depth_fits (at_word w left part) depth = ltb depth open_limit
depth_fits (at_number d left part) depth = ltb depth open_limit
depth_fits (at_flag f) depth = ltb depth open_limit
depth_fits (at_text x s left test) depth = ltb depth open_limit
depth_fits (at_raw r s left) depth = ltb depth open_limit
depth_fits astray depth = false

-- the loans are those of the beginning, which 1 would not refuse; no more is taken, used and open than can be; what the mode holds lies in what is used
unfoldable pub sound : Lent → Mode → List Frame → Cursor → Memory → Bool
sound lent x fs c m =
    same_lent (lent_of m) lent && eqb (fault_of m) 0 && leb c.at message_limit && depth_fits x (length fs) && counts_fit c m && mode_fits c x && pairs_fit c x

-- 12 before anything else
unfoldable pub sound_step : Lent → ℕ → State → State
sound_step lent b (wait x ts c m) = cond (sound lent x ts c m) (step b (wait x ts c m)) (broken m)
sound_step lent b (over e) = over e
sound_step lent b (none m) = step b (none m)

-- numbers and the loans, as they are lent and come back
pub data Held : Type 0 where
  held : Numbers → Memory → Held

unfoldable pub after_step : Numbers → State → Held
after_step n s = held (numbers_of n s) (memory_of s)

-- one byte; what has ended keeps its numbers and its loans
abbrev pub stepped : Numbers → Memory → ℕ → State → Held
stepped n m b (over e) = held n m
stepped n m b (wait x ts c m') = after_step n (sound_step n.head.lent b (wait x ts c m'))
stepped n m b (none m') = after_step n (broken m')

unfoldable pub byte_step : ℕ → Held → Held
byte_step b (held n m) = stepped n m b (state_of n m)
