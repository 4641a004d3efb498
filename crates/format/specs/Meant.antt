-- What the numbers of a state mean, as tables of codes: a claim beside Numbers, which reads them by tests.
use Rattle.std.specs.Prelude.{◌≡◌, ◌≢◌, List, [], ◌∷◌, ℕ, ◌+◌, ◌*◌, T, length, get_or}
use Rattle.rows.specs.Memory.{Memory}
use Rattle.format.specs.declared.Frame.{Frame}
use Rattle.format.specs.declared.Work.{Work}
use Rattle.format.specs.Codes.{status_waiting, status_finished, status_refused, mode_marker, mode_word, mode_number, mode_flag, mode_text}
use Rattle.format.specs.Codes.{mode_raw, purpose_integer, purpose_double, purpose_object, purpose_date_bits, purpose_xml, purpose_date, purpose_array}
use Rattle.format.specs.Codes.{purpose_byte_array, purpose_fours, purpose_eights, purpose_object_vector, purpose_dictionary, purpose_string, purpose_key, purpose_dynamic_key}
use Rattle.format.specs.Codes.{purpose_class, purpose_external, purpose_name, purpose_vector_class}
use Rattle.format.specs.Decide.{Width, Body, xml, date, array, bytes, raw, objects, dictionary, four, eight}
use Rattle.format.specs.Reading.{finished, refused}
use Rattle.format.specs.Step.{assoc, dynamics, Use, for_string, for_key, for_class, for_external, for_name, for_vector, xml_text, table_text}
use Rattle.format.specs.Step.{integer_word, object_word, size_word, text_word, double_bits, date_bits, raw_flag, objects_flag, dictionary_flag}
use Rattle.format.specs.Step.{byte_array, raw_vector, Mode, at_marker, at_word, at_number, at_flag, at_text, at_raw, astray, State, wait, over, none}
use Rattle.format.specs.Numbers.{Numbers, frame_width}
use Rattle.format.specs.Claims.{Lendable}
use Rattle.format.specs.Refusals as no

-- whose body a purpose says
pub data BodyMeant : ℕ → Body → Type 0 where
  of_xml : BodyMeant purpose_xml xml
  of_date : BodyMeant purpose_date date
  of_array : BodyMeant purpose_array array
  of_byte_array : BodyMeant purpose_byte_array bytes
  of_fours : BodyMeant purpose_fours (raw four)
  of_eights : BodyMeant purpose_eights (raw eight)
  of_object_vector : BodyMeant purpose_object_vector objects
  of_dictionary : BodyMeant purpose_dictionary dictionary

-- whose string
pub data UseMeant (w : Work) : Use → Type 0 where
  of_string : w.purpose ≡ purpose_string → UseMeant w (for_string w.row)
  of_key : w.purpose ≡ purpose_key → UseMeant w (for_key (assoc w.row w.count w.done))
  of_dynamic_key : w.purpose ≡ purpose_dynamic_key → UseMeant w (for_key (dynamics w.row w.done))
  of_class : w.purpose ≡ purpose_class → UseMeant w (for_class w.row w.count w.kind.dynamic)
  of_external : w.purpose ≡ purpose_external → UseMeant w for_external
  of_name : w.purpose ≡ purpose_name → UseMeant w (for_name w.row w.kind w.count)
  of_vector_class : w.purpose ≡ purpose_vector_class → UseMeant w (for_vector w.row w.count)

-- what the next byte is for, by the mode and the purpose
pub data ModeMeant (w : Work) : Mode → Type 0 where
  -- a marker, where the purpose is the key's mark and the span is the key's
  marker : w.mode ≡ mode_marker → ModeMeant w (at_marker (record { mark = w.purpose; begin = w.span.begin; size = w.span.size }))
  -- a word
  integers : w.mode ≡ mode_word → w.purpose ≡ purpose_integer → ModeMeant w (at_word (integer_word w.row) w.left w.part)
  object_words : w.mode ≡ mode_word → w.purpose ≡ purpose_object → ModeMeant w (at_word (object_word w.row) w.left w.part)
  sizes : {b : Body} → w.mode ≡ mode_word → BodyMeant w.purpose b → ModeMeant w (at_word (size_word w.row b) w.left w.part)
  strings : {u : Use} → w.mode ≡ mode_word → UseMeant w u → ModeMeant w (at_word (text_word u) w.left w.part)
  -- eight bytes
  doubles : w.mode ≡ mode_number → w.purpose ≡ purpose_double → ModeMeant w (at_number (double_bits w.row) w.left w.part)
  dates : w.mode ≡ mode_number → w.purpose ≡ purpose_date_bits → ModeMeant w (at_number (date_bits w.row) w.left w.part)
  -- a flag
  raw_flags : {a : Width} → w.mode ≡ mode_flag → BodyMeant w.purpose (raw a) → ModeMeant w (at_flag (raw_flag w.row a w.span))
  vector_flags : w.mode ≡ mode_flag → w.purpose ≡ purpose_object_vector → ModeMeant w (at_flag (objects_flag w.row w.count))
  dictionary_flags : w.mode ≡ mode_flag → w.purpose ≡ purpose_dictionary → ModeMeant w (at_flag (dictionary_flag w.row w.count))
  -- a text
  xml_texts : w.mode ≡ mode_text → w.purpose ≡ purpose_xml → ModeMeant w (at_text (xml_text w.row) w.span w.left w.part)
  texts : {u : Use} → w.mode ≡ mode_text → UseMeant w u → ModeMeant w (at_text (table_text u) w.span w.left w.part)
  -- raw bytes
  byte_arrays : w.mode ≡ mode_raw → w.purpose ≡ purpose_byte_array → ModeMeant w (at_raw (byte_array w.row) w.span w.left)
  raw_vectors : {a : Width} → w.mode ≡ mode_raw → BodyMeant w.purpose (raw a) → ModeMeant w (at_raw (raw_vector w.row a) w.span w.left)

-- a frame's numbers, from the i-th on
pub record FrameMeant (F : List ℕ) (i : ℕ) (f : Frame) : Type 0 where
  pub task : f.task ≡ get_or F (i * frame_width) 0
  pub row : f.row ≡ get_or F (i * frame_width + 1) 0
  pub left : f.left ≡ get_or F (i * frame_width + 2) 0
  pub done : f.done ≡ get_or F (i * frame_width + 3) 0
  pub first : f.first ≡ get_or F (i * frame_width + 4) 0
  pub dynamic : f.dynamic ≡ get_or F (i * frame_width + 5) 0

-- the frames, innermost first; the outermost is laid first
abbrev pub FramesMeant : List ℕ → List Frame → Type 0
FramesMeant F [] = Unit
FramesMeant F (f ∷ ts) = FrameMeant F (length ts) f × FramesMeant F ts

-- a state, by its status
pub data StateMeant (n : Numbers) (m : Memory) : State → Type 0 where
  -- it waits, for what its mode says
  waits : {x : Mode} {ts : List Frame} → n.head.status ≡ status_waiting → ModeMeant n.head.work x → length ts ≡ n.head.depth → FramesMeant n.frames ts
      → StateMeant n m (wait x ts n.head.cursor m)
  -- or its mode and purpose are none of ours
  strays : {ts : List Frame} → n.head.status ≡ status_waiting → ((x : Mode) → ModeMeant n.head.work x → ⊥) → length ts ≡ n.head.depth
      → FramesMeant n.frames ts → StateMeant n m (wait astray ts n.head.cursor m)
  -- it is finished, or refused, with what a reading can say
  finishes : n.head.status ≡ status_finished → Lendable n.head.cursor.rows n.head.cursor.store → StateMeant n m (over (finished n.head.cursor m))
  refuses : n.head.status ≡ status_refused → T (no.sayable n.head.number n.head.told n.head.place)
      → StateMeant n m (over (refused n.head.number n.head.told n.head.place m))
  -- anything else was never begun
  unbegun : n.head.status ≢ status_waiting → (n.head.status ≡ status_finished → Lendable n.head.cursor.rows n.head.cursor.store → ⊥)
      → (n.head.status ≡ status_refused → T (no.sayable n.head.number n.head.told n.head.place) → ⊥) → StateMeant n m (none m)
