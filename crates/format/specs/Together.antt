-- Whether a waiting state holds together: its head's numbers by what is used; its frames, the tables and a trait in the making.
use Rattle.std.specs.Prelude.{◌≡◌, List, [], ◌∷◌, ℕ, ◌+◌, ◌*◌, ◌-◌, ◌/◌, ◌^◌, ◌≤◌, ◌<◌, suc, length, get_or}
use Rattle.rows.specs.declared.Cursor.{Cursor}
use Rattle.rows.specs.declared.Span.{Span}
use Rattle.rows.specs.declared.Key.{Key}
use Rattle.rows.specs.Memory.{row_width, span_width, trait_width, span, Memory, fault_of, message_limit, open_limit, col_end, col, span_at}
use Rattle.rows.specs.declared.Trait.{Trait}
use Rattle.wire.specs.U29.{word_more, word_bits}
use Rattle.wire.specs.Big.{number_more, number_bits}
use Rattle.utf8.specs.States.{text_broken}
use Rattle.rows.specs.declared.lent.Lent.{Lent}
use Rattle.format.specs.Decide.{class_of, trait_at}
use Rattle.format.specs.Step.{assoc, dynamics, Use, for_string, for_key, for_class, for_external, for_name, for_vector, Text, xml_text, table_text, raw_row}
use Rattle.format.specs.Step.{Word, integer_word, object_word, size_word, text_word, Number, double_bits, date_bits, Flag, raw_flag, objects_flag}
use Rattle.format.specs.Step.{dictionary_flag, Mode, at_marker, at_word, at_number, at_flag, at_text, at_raw, astray}
use Rattle.format.specs.declared.Frame.{Frame}
use Rattle.format.specs.Numbers.{lent_of}
use Rattle.format.specs.Codes.{task_pairs, task_dynamics, task_dense, task_vector, task_members, task_keys, task_values}

-- used counts lie within loans of these lengths
abbrev pub Counts : Lent → Cursor → Type 0
Counts l c =
    (((((c.rows ≤ l.rows / row_width) × (c.store ≤ l.store)) × (c.strings ≤ l.strings / span_width)) × (c.objects ≤ l.objects))
    × (c.traits ≤ l.traits / trait_width)) × (c.names ≤ l.names / span_width)

-- a row is used; a span; a key's span, if its mark isn't 0
abbrev pub RowIn : ℕ → Cursor → Type 0
RowIn row c = row < c.rows

abbrev pub SpanIn : Span → Cursor → Type 0
SpanIn s c = s.begin + s.size ≤ c.store

abbrev pub KeyIn : Key → Cursor → Type 0
KeyIn k c = 0 < k.mark → SpanIn (span k.begin k.size) c

-- a span is used that has more room than is left to fill
abbrev pub BodyIn : Span → ℕ → Cursor → Type 0
BodyIn s left c = SpanIn s c × (left < s.size)

-- so many bytes may come after the next one, and those before it gave no more than they can
abbrev pub PartIn : ℕ → ℕ → ℕ → ℕ → Type 0
PartIn most bits left part = (left ≤ most) × (part < 2 ^ (bits * (most - left)))

-- what a mode holds lies in what is used
abbrev pub UseIn : Use → Cursor → Type 0
UseIn (for_string row) c = RowIn row c
UseIn (for_key (assoc row n done)) c = RowIn row c
UseIn (for_key (dynamics row done)) c = RowIn row c
UseIn (for_class row n y) c = RowIn row c
UseIn for_external c = Unit
UseIn (for_name row t n) c = (RowIn row c × SpanIn (class_of t) c) × (t.first ≤ c.names)
UseIn (for_vector row n) c = RowIn row c

abbrev pub TextIn : Text → Cursor → Type 0
TextIn (xml_text row) c = RowIn row c
TextIn (table_text u) c = UseIn u c

abbrev pub WordIn : Word → Cursor → Type 0
WordIn (integer_word row) c = RowIn row c
WordIn (object_word row) c = RowIn row c
WordIn (size_word row body) c = RowIn row c
WordIn (text_word u) c = UseIn u c

abbrev pub NumberIn : Number → Cursor → Type 0
NumberIn (double_bits row) c = RowIn row c
NumberIn (date_bits row) c = RowIn row c

abbrev pub FlagIn : Flag → Cursor → Type 0
FlagIn (raw_flag row w s) c = RowIn row c × SpanIn s c
FlagIn (objects_flag row n) c = RowIn row c
FlagIn (dictionary_flag row n) c = RowIn row c

abbrev pub ModeIn : Mode → Cursor → Type 0
ModeIn (at_marker k) c = KeyIn k c
ModeIn (at_word w left part) c = WordIn w c × PartIn word_more word_bits left part
ModeIn (at_number d left part) c = NumberIn d c × PartIn number_more number_bits left part
ModeIn (at_flag f) c = FlagIn f c
ModeIn (at_text x s left test) c = (TextIn x c × BodyIn s left c) × (test ≤ text_broken)
ModeIn (at_raw r s left) c = RowIn (raw_row r) c × BodyIn s left c
ModeIn astray c = ⊥

-- pairs done are below the used rows
abbrev pub PairsUsed : Use → Cursor → Type 0
PairsUsed (for_string row) c = Unit
PairsUsed (for_key (assoc row n done)) c = done < c.rows
PairsUsed (for_key (dynamics row done)) c = done < c.rows
PairsUsed (for_class row n y) c = Unit
PairsUsed for_external c = Unit
PairsUsed (for_name row t n) c = Unit
PairsUsed (for_vector row n) c = Unit

abbrev pub PairsIn : Mode → Cursor → Type 0
PairsIn (at_marker k) c = Unit
PairsIn (at_word (integer_word row) left part) c = Unit
PairsIn (at_word (object_word row) left part) c = Unit
PairsIn (at_word (size_word row body) left part) c = Unit
PairsIn (at_word (text_word u) left part) c = PairsUsed u c
PairsIn (at_number d left part) c = Unit
PairsIn (at_flag f) c = Unit
PairsIn (at_text (xml_text row) s left test) c = Unit
PairsIn (at_text (table_text u) s left test) c = PairsUsed u c
PairsIn (at_raw r s left) c = Unit
PairsIn astray c = Unit

-- as many open values as a mode may have around it
abbrev pub Fits : Mode → ℕ → Type 0
Fits (at_marker k) n = n ≤ open_limit
Fits (at_word w left part) n = n < open_limit
Fits (at_number d left part) n = n < open_limit
Fits (at_flag f) n = n < open_limit
Fits (at_text x s left test) n = n < open_limit
Fits (at_raw r s left) n = n < open_limit
Fits astray n = ⊥

-- the loans are those of the beginning, which 1 would not refuse; no more is taken, open and used than can be; what the mode works with is used
pub record Together (lent : Lent) (x : Mode) (ts : List Frame) (c : Cursor) (m : Memory) : Type 0 where
  pub loans : lent_of m ≡ lent
  pub clean : fault_of m ≡ 0
  pub within : c.at ≤ message_limit
  pub open_fits : Fits x (length ts)
  pub counts : Counts lent c
  pub works : ModeIn x c
  pub pairs : PairsIn x c

-- ---- what a step looks up: frames, and entries of the loans

-- a frame's task is one of the seven
pub data TaskCode : ℕ → Type 0 where
  pairs_task : TaskCode task_pairs
  dynamics_task : TaskCode task_dynamics
  dense_task : TaskCode task_dense
  vector_task : TaskCode task_vector
  members_task : TaskCode task_members
  keys_task : TaskCode task_keys
  values_task : TaskCode task_values

-- a frame's task is one of the seven, its row is used, and each of its finished entries has a row
pub record FrameIn (f : Frame) (c : Cursor) : Type 0 where
  pub code : TaskCode f.task
  pub here : RowIn f.row c
  pub counted : f.done < c.rows

-- and of sealed members the one after that in work, if any is left, has a used name
pub record FrameFits (f : Frame) (c : Cursor) : Type 0 where
  pub reads : FrameIn f c
  pub next : f.task ≡ task_members → 0 < f.left → f.first + suc f.done < c.names

-- every frame
abbrev pub FramesFit : List Frame → Cursor → Type 0
FramesFit [] c = Unit
FramesFit (f ∷ ts) c = FrameFits f c × FramesFit ts c

-- a trait's class lies in the used store, and its names in the used names
abbrev pub TraitIn : Trait → Cursor → Type 0
TraitIn t c = SpanIn (class_of t) c × (t.first + t.count ≤ c.names)

-- every used trait
abbrev pub TraitsFit : Cursor → Memory → Type 0
TraitsFit c m = (i : ℕ) → i < c.traits → TraitIn (trait_at m.traits i) c

-- an object by number: its row is used, and that row ends in the used rows; a name by number: it is used, and so is its span
abbrev pub ObjectIn : ℕ → Cursor → Memory → Type 0
ObjectIn i c m = RowIn (get_or m.objects i 0) c × (col m.rows (get_or m.objects i 0) col_end ≤ c.rows)

abbrev pub NameIn : ℕ → Cursor → Memory → Type 0
NameIn i c m = (i < c.names) × SpanIn (span_at m.names i) c

-- what the used entries of the tables hold lies in what is used
pub record EntriesFit (c : Cursor) (m : Memory) : Type 0 where
  pub strings : (i : ℕ) → i < c.strings → SpanIn (span_at m.strings i) c
  pub objects : (i : ℕ) → i < c.objects → ObjectIn i c m
  pub traits : TraitsFit c m
  pub names : (i : ℕ) → i < c.names → SpanIn (span_at m.names i) c

-- a trait in the making whose last name comes: with it, its names are used
abbrev pub UseMade : Use → Cursor → Type 0
UseMade (for_string row) c = Unit
UseMade (for_key p) c = Unit
UseMade (for_class row n y) c = Unit
UseMade for_external c = Unit
UseMade (for_name row t more) c = more ≡ 0 → t.first + t.count ≤ c.names + 1
UseMade (for_vector row n) c = Unit

-- of a text
abbrev pub TextMade : Text → Cursor → Type 0
TextMade (xml_text row) c = Unit
TextMade (table_text u) c = UseMade u c

-- of a word
abbrev pub WordMade : Word → Cursor → Type 0
WordMade (integer_word row) c = Unit
WordMade (object_word row) c = Unit
WordMade (size_word row body) c = Unit
WordMade (text_word u) c = UseMade u c

-- of a mode
abbrev pub Made : Mode → Cursor → Type 0
Made (at_marker k) c = Unit
Made (at_word w left part) c = WordMade w c
Made (at_number d left part) c = Unit
Made (at_flag f) c = Unit
Made (at_text x s left test) c = TextMade x c
Made (at_raw r s left) c = Unit
Made astray c = Unit

-- the head, the frames, the tables and a trait in the making
pub record HoldsTogether (lent : Lent) (x : Mode) (ts : List Frame) (c : Cursor) (m : Memory) : Type 0 where
  pub together : Together lent x ts c m
  pub frames : FramesFit ts c
  pub entries : EntriesFit c m
  pub made : Made x c
