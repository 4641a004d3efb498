-- What of the loans is used: counts, rows and spans, and those that a mode works with; what was used before more was, is.
use Prim.Native.Nat.{ℕ, ◌≤◌}
use native.Mathlib.Omega.{arith}
use Rattle.rows.specs.declared.Cursor.{Cursor}
use Rattle.rows.specs.declared.Span.{Span}
use Rattle.wire.specs.U29.{word_more, word_bits}
use Rattle.wire.specs.Big.{number_more, number_bits}
use Rattle.utf8.specs.States.{text_broken}
use Rattle.format.specs.Decide.{class_of}
use Rattle.format.specs.Step.{assoc, dynamics, Use, for_string, for_key, for_class, for_external, for_name, for_vector, Text, xml_text, table_text, raw_row}
use Rattle.format.specs.Step.{Word, integer_word, object_word, size_word, text_word, Number, double_bits, date_bits, Flag, raw_flag, objects_flag, dictionary_flag}
use Rattle.format.specs.Step.{Mode, at_marker, at_word, at_number, at_flag, at_text, at_raw, astray}
pub use Rattle.format.specs.Together.{Counts, RowIn, SpanIn, KeyIn, BodyIn, PartIn, UseIn, TextIn, WordIn, NumberIn, FlagIn, ModeIn, PairsUsed, PairsIn}

-- a span is used that has room for so many bytes
abbrev pub Roomy : ℕ → Span → Cursor → Type 0
Roomy n s c = SpanIn s c × (n ≤ s.size)

-- the same in two: what it works with; and its part of a number, which only bytes keep small
abbrev pub WorkIn : Mode → Cursor → Type 0
WorkIn (at_marker k) c = KeyIn k c
WorkIn (at_word w left part) c = WordIn w c
WorkIn (at_number d left part) c = NumberIn d c
WorkIn (at_flag f) c = FlagIn f c
WorkIn (at_text x s left test) c = (TextIn x c × BodyIn s left c) × (test ≤ text_broken)
WorkIn (at_raw r s left) c = RowIn (raw_row r) c × BodyIn s left c
WorkIn astray c = ⊥

abbrev pub SmallIn : Mode → Type 0
SmallIn (at_marker k) = Unit
SmallIn (at_word w left part) = PartIn word_more word_bits left part
SmallIn (at_number d left part) = PartIn number_more number_bits left part
SmallIn (at_flag f) = Unit
SmallIn (at_text x s left test) = Unit
SmallIn (at_raw r s left) = Unit
SmallIn astray = Unit

-- both are the whole; the whole is both
pub mode_in : (x : Mode) (c : Cursor) → WorkIn x c → SmallIn x → ModeIn x c
mode_in (at_marker k) c h p = h
mode_in (at_word w left part) c h p = (h, p)
mode_in (at_number d left part) c h p = (h, p)
mode_in (at_flag f) c h p = h
mode_in (at_text x s left test) c h p = h
mode_in (at_raw r s left) c h p = h
mode_in astray c h p = h

pub mode-parts : (x : Mode) (c : Cursor) → ModeIn x c → WorkIn x c × SmallIn x
mode-parts (at_marker k) c h = (h, tt)
mode-parts (at_word w left part) c h = h
mode-parts (at_number d left part) c h = h
mode-parts (at_flag f) c h = (h, tt)
mode-parts (at_text x s left test) c h = (h, tt)
mode-parts (at_raw r s left) c h = (h, tt)
mode-parts astray c h = (h, tt)

-- ---- more is used

-- rows, spans and names that were used are used
pub record Grows (c d : Cursor) : Type 0 where
  pub rows : c.rows ≤ d.rows
  pub store : c.store ≤ d.store
  pub names : c.names ≤ d.names

pub grows_same : (c : Cursor) → Grows c c
grows_same c = omega arith

module _ {c d : Cursor} (g : Grows c d) where
  pub grows-on : {e : Cursor} → Grows d e → Grows c e
  grows-on h = omega arith

  pub row_up : (row : ℕ) → RowIn row c → RowIn row d
  row_up row h = omega arith

  pub span-up : (s : Span) → SpanIn s c → SpanIn s d
  span-up s h = omega arith

  -- a first name in the used names stays in them
  pub names-up : (n : ℕ) → n ≤ c.names → n ≤ d.names
  names-up n h = omega arith

  pub use_up : (u : Use) → UseIn u c → UseIn u d
  use_up (for_string row) h = row_up row h
  use_up (for_key (assoc row n done)) h = row_up row h
  use_up (for_key (dynamics row done)) h = row_up row h
  use_up (for_class row n y) h = row_up row h
  use_up for_external h = tt
  use_up (for_name row t n) ((h, k), f) = ((row_up row h, span-up (class_of t) k), names-up t.first f)
  use_up (for_vector row n) h = row_up row h

  pub text-up : (x : Text) → TextIn x c → TextIn x d
  text-up (xml_text row) h = row_up row h
  text-up (table_text u) h = use_up u h

  pub word-up : (w : Word) → WordIn w c → WordIn w d
  word-up (integer_word row) h = row_up row h
  word-up (object_word row) h = row_up row h
  word-up (size_word row body) h = row_up row h
  word-up (text_word u) h = use_up u h

  pub number_up : (x : Number) → NumberIn x c → NumberIn x d
  number_up (double_bits row) h = row_up row h
  number_up (date_bits row) h = row_up row h

  pub flag_up : (f : Flag) → FlagIn f c → FlagIn f d
  flag_up (raw_flag row w s) (h, k) = (row_up row h, span-up s k)
  flag_up (objects_flag row n) h = row_up row h
  flag_up (dictionary_flag row n) h = row_up row h
