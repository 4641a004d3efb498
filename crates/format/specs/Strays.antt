-- What a byte's step looks up out of range: an entry of a table by its number, a trait that its last name makes whole, a sealed member's name, or a frame around a
-- value that the byte finishes. Of a state whose head holds together, and that may take a byte more, the step is a 12 exactly where one of these strays. What isn't
-- looked up isn't tested. Which value a byte finishes is said by the step itself, with no frame around.
use Rattle.std.specs.Prelude.{Some, ◌≡◌, List, [], ◌∷◌, ℕ, suc, ◌+◌, ◌/◌, ◌<◌, length}
use Rattle.rows.specs.declared.Cursor.{Cursor}
use Rattle.rows.specs.declared.Trait.{Trait}
use Rattle.rows.specs.Memory.{Memory, open_limit, span_width, trait_width, span_at}
use Rattle.wire.specs.declared.Part.TheVariants.{Whole}
use Rattle.wire.specs.declared.Size.TheVariants.{Old}
use Rattle.wire.specs.declared.Shape.TheVariants.{Object, Known}
use Rattle.wire.specs.U29.{part_of}
use Rattle.wire.specs.Word.{size_of, shape_of}
use Rattle.format.specs.declared.Frame.{Frame}
use Rattle.format.specs.Codes.{task_members}
use Rattle.format.specs.Decide.{trait_at, names_to}
use Rattle.format.specs.Reading.{finished, taken}
use Rattle.format.specs.Step.{for_name, Word, integer_word, object_word, size_word, text_word, Use, Mode, at_word, over, pop, act}
use Rattle.format.specs.Limits.{There}
use Rattle.format.specs.Together.{SpanIn, TraitIn, ObjectIn, NameIn, FrameIn}

-- ---- frames

-- where a value is finished, with these frames around it, what is looked up strays
pub data FrameStrays : List Frame → Cursor → Memory → Type 0 where
  -- the frame around the value
  this_frame : {f : Frame} {ts : List Frame} {c : Cursor} {m : Memory} → (FrameIn f c → ⊥) → FrameStrays (f ∷ ts) c m
  -- the name of the sealed member that is next in it
  next_name : {f : Frame} {ts : List Frame} {c : Cursor} {m : Memory} → FrameIn f c → f.task ≡ task_members → 0 < f.left
      → (NameIn (f.first + suc f.done) c m → ⊥) → FrameStrays (f ∷ ts) c m
  -- the frame's own value is finished with it, and leaves d and k: a frame around that
  outer_frame : {f : Frame} {ts : List Frame} {c d : Cursor} {m k : Memory} → pop (f ∷ []) c m ≡ over (finished d k) → FrameStrays ts d k → FrameStrays (f ∷ ts) c m

-- ---- words

-- a whole word that is a reference to object i
abbrev pub Refers : Word → ℕ → ℕ → Type 0
Refers (integer_word row) w i = ⊥
Refers (object_word row) w i = shape_of w ≡ Object i
Refers (size_word row body) w i = size_of w ≡ Old i
Refers (text_word u) w i = ⊥

-- ---- a byte

-- what byte b looks up for a mode strays, with these frames around and so much used
pub data Strays (b : ℕ) : Mode → List Frame → Cursor → Memory → Type 0 where
  -- a string by number
  string_entry : {u : Use} {left part w i : ℕ} {ts : List Frame} {c : Cursor} {m : Memory} → part_of left part b ≡ Some (Whole w) → size_of w ≡ Old i → i < c.strings
      → (SpanIn (span_at m.strings i) c → ⊥) → Strays b (at_word (text_word u) left part) ts c m
  -- an object by number
  object_entry : {x : Word} {left part w i : ℕ} {ts : List Frame} {c : Cursor} {m : Memory} → part_of left part b ≡ Some (Whole w) → Refers x w i → i < c.objects
      → (ObjectIn i c m → ⊥) → Strays b (at_word x left part) ts c m
  -- a trait by number, of an object that has room
  trait_entry : {row left part w i : ℕ} {ts : List Frame} {c : Cursor} {m : Memory} → part_of left part b ≡ Some (Whole w) → shape_of w ≡ Known i
      → c.objects < length m.objects → i < c.traits → (TraitIn (trait_at m.traits i) c → ⊥) → Strays b (at_word (object_word row) left part) ts c m
  -- the name of the first sealed member of such a trait
  entry_name : {row left part w i : ℕ} {ts : List Frame} {c : Cursor} {m : Memory} → part_of left part b ≡ Some (Whole w) → shape_of w ≡ Known i
      → c.objects < length m.objects → i < c.traits → TraitIn (trait_at m.traits i) c → 0 < (trait_at m.traits i).count
      → (NameIn (trait_at m.traits i).first c m → ⊥) → Strays b (at_word (object_word row) left part) ts c m
  -- a trait whose last name is there and has room among the names
  new_trait : {x : Mode} {row : ℕ} {t : Trait} {ts : List Frame} {c : Cursor} {m : Memory} → There c m b x (for_name row t 0) → c.names < length m.names / span_width
      → (TraitIn t (names_to c (c.names + 1)) → ⊥) → Strays b x ts c m
  -- the name of the first sealed member of such a trait, where the trait has room; the name just entered can't stray
  new_trait_name : {x : Mode} {row : ℕ} {t : Trait} {ts : List Frame} {c : Cursor} {m : Memory} → There c m b x (for_name row t 0)
      → c.names < length m.names / span_width → TraitIn t (names_to c (c.names + 1)) → c.traits < length m.traits / trait_width → 0 < t.count
      → t.first < c.names → (SpanIn (span_at m.names t.first) c → ⊥) → Strays b x ts c m
  -- the byte finishes its value, and leaves d and k: a frame around that
  frames : {x : Mode} {ts : List Frame} {c d : Cursor} {m k : Memory} → length ts < open_limit → act x b [] (taken c) m ≡ over (finished d k) → FrameStrays ts d k
      → Strays b x ts c m
