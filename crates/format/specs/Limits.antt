-- Why a reading is refused by a limit or for want of room, how it ends, and how it and the standard agree.
use Rattle.std.specs.Prelude.{Some, ◌≡◌, ◌≢◌, get_or}
use mathlib.Core.List.{List, [], ◌∷◌, ◌++◌}
use Prim.Native.Nat.{ℕ, zero, suc, ◌+◌, ◌*◌, ◌/◌, ◌≤◌, ◌<◌, ◌^◌}
use Rattle.std.proofs.Math.ListN.{length, take}
use Rattle.rows.specs.declared.Cursor.{Cursor}
use Rattle.rows.specs.declared.Span.{Span}
use Rattle.rows.specs.declared.Key.{Key}
use Rattle.rows.specs.declared.Trait.{Trait}
use Rattle.rows.specs.Memory.{Memory, open_limit, row_width, span_width, trait_width, loan_rows, loan_store, loan_strings, loan_objects, loan_traits, loan_names}
use Rattle.rows.specs.Memory.{message_limit, span_at}
use Rattle.wire.specs.declared.Part.TheVariants.{Whole}
use Rattle.wire.specs.declared.Size.{Size}
use Rattle.wire.specs.declared.Size.TheVariants.{Old, New}
use Rattle.wire.specs.declared.Shape.{Shape}
use Rattle.wire.specs.declared.Shape.TheVariants.{Object, Known, External, Inline}
use Rattle.wire.specs.U29.{part_of}
use Rattle.wire.specs.Word.{size_of, shape_of}
use Rattle.utf8.specs.States.{step_of}
use Rattle.format.specs.declared.Frame.{Frame}
use Rattle.format.specs.Decide.{class_of, trait_at, width_of, xml, date, array, bytes, raw, objects, dictionary}
use Rattle.format.specs.Step.{Use, for_string, for_key, for_class, for_external, for_name, for_vector, table_text, Word, integer_word, object_word, size_word}
use Rattle.format.specs.Step.{text_word, Mode, at_marker, at_word, at_text, wait, run, begin}
use Rattle.format.specs.Reading.{finished, refused, ResultOf, ok, bad, Ended}
use Rattle.format.specs.Standard.{Traits, Tables, Tree}
use Rattle.format.specs.Unfold.{part, unfolded}
use Rattle.format.specs.Claims.{used_rows, used_store}
use Rattle.format.specs.Byte.{RefusedBy}
use Rattle.format.specs.Refusals as no

-- ---- what a byte asks of the loans

-- the bytes of the store that a size word asks for, once it is whole
abbrev pub asked : Word → Size → ℕ
asked (integer_word row) z = 0
asked (object_word row) z = 0
asked (size_word row body) (Old i) = 0
asked (size_word row xml) (New n) = n
asked (size_word row date) (New n) = 0
asked (size_word row array) (New n) = 0
asked (size_word row bytes) (New n) = n
asked (size_word row (raw w)) (New n) = n * width_of w
asked (size_word row objects) (New n) = 0
asked (size_word row dictionary) (New n) = 0
asked (text_word u) (Old i) = 0
asked (text_word u) (New n) = n

-- a size that is no reference; an object word that is none
abbrev pub NewSize : Size → Type 0
NewSize (Old i) = ⊥
NewSize (New n) = Unit

abbrev pub NewShape : Shape → Type 0
NewShape (Object i) = ⊥
NewShape (Known i) = Unit
NewShape External = Unit
NewShape (Inline n y) = Unit

-- a whole word after which a row enters the objects
abbrev pub Enters : Word → ℕ → Type 0
Enters (integer_word row) w = ⊥
Enters (object_word row) w = NewShape (shape_of w)
Enters (size_word row body) w = NewSize (size_of w)
Enters (text_word u) w = ⊥

-- a string that is a field's name; one after which a trait is whole: its class, where it has no names, or the last of them
abbrev pub IsName : Use → Type 0
IsName (for_string row) = ⊥
IsName (for_key p) = ⊥
IsName (for_class row n y) = ⊥
IsName for_external = ⊥
IsName (for_name row t n) = Unit
IsName (for_vector row n) = ⊥

abbrev pub EndsTrait : Use → Type 0
EndsTrait (for_string row) = ⊥
EndsTrait (for_key p) = ⊥
EndsTrait (for_class row n y) = n ≡ 0
EndsTrait for_external = ⊥
EndsTrait (for_name row t n) = n ≡ 0
EndsTrait (for_vector row n) = ⊥

-- byte b ends this string, and it is there: a text that is valid and has room among the strings, a string by number, or the empty one
pub data There (c : Cursor) (m : Memory) (b : ℕ) : Mode → Use → Type 0 where
  by_text : {u : Use} {s : Span} {test : ℕ} → step_of test b ≡ 0 → c.strings < length m.strings / span_width → There c m b (at_text (table_text u) s zero test) u
  by_number : {u : Use} {left part w i : ℕ} → part_of left part b ≡ Some (Whole w) → size_of w ≡ Old i → i < c.strings → There c m b (at_word (text_word u) left part) u
  by_none : {u : Use} {left part w : ℕ} → part_of left part b ≡ Some (Whole w) → size_of w ≡ New zero → There c m b (at_word (text_word u) left part) u

-- byte b, for a mode, asks for more of a loan of m than is left of it, and of no loan before that one: for an entry, and all are used; of the store for bytes
pub data Lacks (c : Cursor) (m : Memory) (b : ℕ) : Mode → ℕ → Type 0 where
  no_row : {k : Key} → b ≤ 0x11 → length m.rows / row_width ≤ c.rows → Lacks c m b (at_marker k) loan_rows
  no_store : {w : Word} {left part n : ℕ} → part_of left part b ≡ Some (Whole n) → (Enters w n → c.objects < length m.objects)
      → length m.store < c.store + asked w (size_of n) → Lacks c m b (at_word w left part) loan_store
  no_string : {u : Use} {s : Span} {test : ℕ} → step_of test b ≡ 0 → length m.strings / span_width ≤ c.strings
      → Lacks c m b (at_text (table_text u) s zero test) loan_strings
  no_object : {w : Word} {left part n : ℕ} → part_of left part b ≡ Some (Whole n) → Enters w n → length m.objects ≤ c.objects
      → Lacks c m b (at_word w left part) loan_objects
  no_trait : {x : Mode} {u : Use} → There c m b x u → EndsTrait u → (IsName u → c.names < length m.names / span_width)
      → length m.traits / trait_width ≤ c.traits → Lacks c m b x loan_traits
  no_name : {x : Mode} {u : Use} → There c m b x u → IsName u → length m.names / span_width ≤ c.names → Lacks c m b x loan_names

-- ---- why it is refused

-- byte b of bs, behind those before it, is the next one for a reading with the loans m that waits: for what, with which values open, and what is used
pub record Awaits (m : Memory) (bs before : List ℕ) (b : ℕ) (x : Mode) (ts : List Frame) (c : Cursor) : Type 0 where
  pub after : List ℕ
  pub loans : Memory
  pub split : bs ≡ before ++ b ∷ after
  pub waiting : run (begin m) before ≡ wait x ts c loans

-- why a reading of bs with the loans m is refused by a limit or for want of room: number, told value and place
pub data Limit (m : Memory) (bs : List ℕ) : ℕ → ℕ → ℕ → Type 0 where
  -- the byte is a marker, and as many values are open as can be
  deep : {before : List ℕ} {b : ℕ} {k : Key} {ts : List Frame} {c : Cursor} → Awaits m bs before b (at_marker k) ts c → length before < message_limit
      → b ≤ 0x11 → length ts ≡ open_limit → Limit m bs no.too_deep 0 (suc (length before))
  -- the byte asks for more of a loan than is left of it
  full : {before : List ℕ} {b loan : ℕ} {x : Mode} {ts : List Frame} {c : Cursor} → Awaits m bs before b x ts c → length before < message_limit
      → Lacks c m b x loan → Limit m bs no.no_room loan (suc (length before))
  -- as many bytes are taken as can be, and there is another
  long : {before : List ℕ} {b : ℕ} {x : Mode} {ts : List Frame} {c : Cursor} → Awaits m bs before b x ts c → length before ≡ message_limit
      → Limit m bs no.too_long 0 message_limit

-- ---- how a reading ends

-- how a reading of bs ends
pub data ReadingEnds (bs : List ℕ) : Ended → Type 0 where
  -- so many bytes are taken
  whole : {c : Cursor} {m : Memory} → c.at ≤ length bs → ReadingEnds bs (finished c m)
  -- 1: a loan
  faults : {loan : ℕ} {m : Memory} → loan_rows ≤ loan → loan ≤ loan_names → ReadingEnds bs (refused no.bad_loan loan 0 m)
  -- 2: the bytes end too soon, and its place is their end
  cut : {place : ℕ} {m : Memory} → place ≡ length bs → place ≤ message_limit → ReadingEnds bs (refused no.unexpected_end 0 place m)
  -- 3 to 10: a byte b, the last of p that were taken
  byte : {number told place : ℕ} {m : Memory} (b p : ℕ) → b < 2 ^ 8 → p ≤ length bs → place ≤ message_limit → number ≢ no.lost → RefusedBy b p number told place
      → ReadingEnds bs (refused number told place m)
  -- 11: as many are taken as may be, and there are more
  past : {place : ℕ} {m : Memory} → place ≡ message_limit → message_limit < length bs → ReadingEnds bs (refused no.too_long 0 place m)

-- ---- a reading and the standard's

-- a span's text
abbrev pub span_text : Memory → Span → List ℕ
span_text m s = part m.store s.begin s.size

-- a trait holds a class, whether its objects are dynamic, and its names
pub record TraitHeld (m : Memory) (t : Trait) (x : Traits) : Type 0 where
  pub class : span_text m (class_of t) ≡ x.class
  pub dynamic : t.dynamic ≡ x.dynamic
  pub count : t.count ≡ length x.names
  pub names : (i : ℕ) → i < t.count → span_text m (span_at m.names (t.first + i)) ≡ get_or x.names i []

-- the used strings, objects and traits are the standard's: as many, with these texts, which lie in the used store, and these traits
pub record TablesHeld (c : Cursor) (m : Memory) (s : Tables) : Type 0 where
  pub strings : c.strings ≡ length s.texts
  pub texts : (i : ℕ) → i < c.strings → span_text m (span_at m.strings i) ≡ get_or s.texts i []
  pub within : (i : ℕ) → i < c.strings → (span_at m.strings i).begin + (span_at m.strings i).size ≤ c.store
  pub objects : c.objects ≡ length s.objects
  pub traits : c.traits ≡ length s.traits
  pub kinds : (i : ℕ) → i < c.traits → TraitHeld m (trait_at m.traits i) (get_or s.traits i (record { class = []; dynamic = 0; names = [] }))

-- how a reading of bs with the loans lent, and the standard's, end
pub data Accord (lent : Memory) (bs : List ℕ) : Ended → ResultOf Tables ℕ Tree → Type 0 where
  -- both finish after as many bytes, the rows that are used unfold to the standard's tree, and the tables hold the standard's
  reads : {c : Cursor} {m : Memory} {t : Tree} {s : Tables} {rest : List ℕ} → bs ≡ take c.at bs ++ rest → c.at ≤ length bs
      → unfolded (used_rows c m) (used_store c m) 0 ≡ t → unfolded (used_rows c m) m.store 0 ≡ t → TablesHeld c m s
      → Accord lent bs (finished c m) (ok t s c.at rest)
  -- both refuse alike, by a number of the standard's
  refuses : {n told place : ℕ} {m : Memory} {s : Tables} → no.unexpected_end ≤ n → n ≤ no.bad_text → Accord lent bs (refused n told place m) (bad n told place s)
  -- a limit is met, or a loan is full, and why
  limited : {n told place : ℕ} {m : Memory} {y : ResultOf Tables ℕ Tree} → Limit lent bs n told place → Accord lent bs (refused n told place m) y

-- what the standard finishes, or refuses, a reading of bs with the loans lent finishes or refuses so, unless a limit is met, or a loan is full, and why
pub data Kept-to (lent : Memory) (bs : List ℕ) (e : Ended) : ResultOf Tables ℕ Tree → Type 0 where
  finishes : {t : Tree} {s : Tables} {p : ℕ} {rest : List ℕ} (c : Cursor) (m' : Memory) → e ≡ finished c m' → c.at ≡ p
      → unfolded (used_rows c m') (used_store c m') 0 ≡ t → Kept-to lent bs e (ok t s p rest)
  stops : {n told place : ℕ} {s : Tables} (m' : Memory) → e ≡ refused n told place m' → Kept-to lent bs e (bad n told place s)
  meets : {y : ResultOf Tables ℕ Tree} (n told place : ℕ) (m' : Memory) → Limit lent bs n told place → e ≡ refused n told place m' → Kept-to lent bs e y
