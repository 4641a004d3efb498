-- The whole reading of a message, by recursion on how many values may still open.
use Rattle.std.specs.Prelude.{Option, Some, None, Bool, true, cond, List, [], ◌∷◌, ℕ, zero, suc, ◌+◌, ◌*◌, leb, eqb, length}
use Rattle.rows.specs.declared.Cursor.{Cursor}
use Rattle.rows.specs.declared.Span.{Span}
use Rattle.rows.specs.declared.Key.{Key}
use Rattle.rows.specs.declared.Trait.{Trait}
use Rattle.rows.specs.Memory.{Memory, cursor, fresh, zeroed, fault_of, message_limit, open_limit, col_count, col_count2, no_span, no_key, key_of}
use Rattle.wire.specs.declared.Part.{Part}
use Rattle.wire.specs.declared.Part.TheVariants.{More, Whole}
use Rattle.wire.specs.declared.Size.{Size}
use Rattle.wire.specs.declared.Size.TheVariants.{Old, New}
use Rattle.wire.specs.declared.Shape.{Shape}
use Rattle.wire.specs.declared.Shape.TheVariants.{Object, Known, External, Inline}
use Rattle.wire.specs.U29.{part_of, word_more}
use Rattle.wire.specs.Word.{size_of, shape_of}
use Rattle.wire.specs.Big.{digit_of, number_more}
use Rattle.utf8.specs.States.{step_of}
use Rattle.format.specs.Refusals as no
use Rattle.format.specs.Decide.{Out, stop, give, refuse, lost, Decision, looking, on_rows, on_store, on_strings, on_objects, on_traits, on_names, width_of}
use Rattle.format.specs.Decide.{Body, xml, date, array, bytes, raw, objects, dictionary, Kind, leaf, integer, double, string, object, sized, kind_of}
use Rattle.format.specs.Decide.{marker, closed, numbered, integer_end, date_end, bodied, object_class, vector_class, fixed, weak, flagged, counted, key_end, grown}
use Rattle.format.specs.Decide.{old_text, reserved, stored, judged, text_end, entered, referred, old_trait, trait_of, named, trait_end, sealed_key, starred}
pub use Rattle.format.specs.Readers.{ResultOf, ReaderOf, ok, bad, bind, ◌>>=◌, ◌>>◌, ret}

-- ---- readers: bytes in, a result out

-- over the loans and the cursor
abbrev pub Result : Type 0 → Type 0
Result A = ResultOf Memory Cursor A

abbrev pub Reader : Type 0 → Type 0
Reader A = ReaderOf Memory Cursor A

abbrev pub decided : {A : Type 0} → Out Memory A → Memory → List ℕ → Result A
decided (stop n t p) m bs = bad n t p m
decided (give a m c) _ bs = ok a m c bs

-- a decision
abbrev pub by : {A : Type 0} → Decision A → Reader A
by f m c bs = decided (f m c) m bs

-- one byte more is taken
abbrev pub taken : Cursor → Cursor
taken c = cursor (suc c.at) c.rows c.store c.strings c.objects c.traits c.names

-- the one place where a byte is asked for: 2 where there is none, 11 where it is one too many
unfoldable pub byte : Reader ℕ
byte m c [] = bad no.unexpected_end 0 c.at m
byte m c (b ∷ bs) = cond (leb message_limit c.at) (bad no.too_long 0 c.at m) (ok b m (taken c) bs)

-- ---- numbers, words and texts

-- after a byte of a number: it is whole, or more of it comes
abbrev pub on_part : (ℕ → Reader ℕ) → Option Part → Reader ℕ
on_part more (Some (More n)) = more n
on_part more (Some (Whole n)) = ret n
on_part more None = by (λ m c. lost)

-- a U29 of which this byte and at most `left` more come, n so far
unfoldable pub u29 : ℕ → ℕ → Reader ℕ
u29 zero n = do
  b ← byte
  on_part (λ n. by (λ m c. lost)) (part_of zero n b)
u29 (suc left) n = do
  b ← byte
  on_part (u29 left) (part_of (suc left) n b)

-- a number of eight bytes, of which this one and `left` more come
unfoldable pub number : ℕ → ℕ → Reader ℕ
number zero n = do
  b ← byte
  on_part (λ n. by (λ m c. lost)) (digit_of zero n b)
number (suc left) n = do
  b ← byte
  on_part (number left) (digit_of (suc left) n b)

-- a byte of span s and n more, t the text test so far: its verdict
unfoldable pub chars : Span → ℕ → ℕ → Reader Bool
chars s zero t = do
  b ← byte
  by (on_store (stored s zero b)) >> ret (eqb (step_of t b) 0)
chars s (suc n) t = do
  b ← byte
  by (on_store (stored s (suc n) b)) >> chars s n (step_of t b)

-- a byte of span s and n more, each followed by what `grow` does
unfoldable pub fill : (ℕ → Reader Unit) → Span → ℕ → Reader Unit
fill grow s zero = do
  b ← byte
  by (on_store (stored s zero b)) >> grow zero
fill grow s (suc n) = do
  b ← byte
  by (on_store (stored s (suc n) b)) >> grow (suc n) >> fill grow s n

-- the string of a size word; `at` is done when its span is reserved
unfoldable pub text_of : (Span → Reader Unit) → Size → Reader Span
text_of at (Old i) = by (looking (λ m. old_text i m.strings))
text_of at (New zero) = ret no_span
text_of at (New (suc n)) = do
  s ← by (looking (λ m. reserved (suc n) m.store))
  valid ← at s >> chars s n 0
  by (on_strings (text_end s valid))

unfoldable pub text : (Span → Reader Unit) → Reader Span
text at = do
  w ← u29 word_more 0
  text_of at (size_of w)

abbrev pub plain : Span → Reader Unit
plain s = ret tt

-- ---- entries

-- what reads one value, with its key
abbrev pub Values : Type 0
Values = Key → Reader Unit

-- n entries of a row, `done` before them, counted in a column; `one` reads the entry after so many
unfoldable pub entries : (ℕ → Reader Unit) → ℕ → ℕ → ℕ → ℕ → Reader Unit
entries one row col zero done = ret tt
entries one row col (suc n) done = one done >> by (on_rows (counted row col done)) >> entries one row col n (suc done)

-- a pair whose key is read, of a given size: an empty one ends the pairs
unfoldable pub pair : Values → ℕ → ℕ → ℕ → Reader Unit → Span → ℕ → Reader Unit
pair value row col done more s zero = ret tt
pair value row col done more s (suc n) = value (key_of s) >> by (on_rows (counted row col done)) >> more

-- pairs of a row up to an empty key, `done` before them; f is more than the bytes left, so that it never runs out before them
unfoldable pub pairs_by : Values → ℕ → ℕ → ℕ → ℕ → Reader Unit
pairs_by value row col zero done = by (λ m c. lost)
pairs_by value row col (suc f) done = do
  s ← text plain
  pair value row col done (pairs_by value row col f (suc done)) s s.size

unfoldable pub pairs : Values → ℕ → ℕ → ℕ → Reader Unit
pairs value row col done m c bs = pairs_by value row col (suc (length bs)) done m c bs

-- a key of a dictionary and its value, `done` pairs before them
unfoldable pub couple : Values → ℕ → ℕ → Reader Unit
couple value row done = value no_key >> by (looking (λ m. key_end row done m.rows)) >> value no_key

-- ---- objects and vectors

-- n names more of a trait
unfoldable pub names : ℕ → Reader Unit
names zero = ret tt
names (suc n) = do
  s ← text plain
  by (on_names (named s)) >> names n

-- dynamic members, if there are to be any
unfoldable pub dynamics : Values → ℕ → ℕ → Reader Unit
dynamics value row zero = ret tt
dynamics value row (suc y) = pairs value row col_count2 0

-- an object's members, by its trait, and its end
unfoldable pub members : Values → ℕ → Trait → Reader Unit
members value row t =
    entries (λ done. by (looking (λ m. sealed_key (t.first + done) m.names)) >>= value) row col_count t.count 0
    >> dynamics value row t.dynamic >> by (on_rows (closed row))

-- an object whose class is whole, its trait to be read
unfoldable pub inlined : Values → ℕ → Trait → Reader Unit
inlined value row t = by (on_rows (object_class row t)) >> names t.count >> by (on_traits (trait_end t)) >> members value row t

-- what an object word is followed by
unfoldable pub object_of : Values → ℕ → Shape → Reader Unit
object_of value row (Object i) = by (λ m. on_rows (referred row i m.objects) m)
object_of value row (Known i) = do
  t ← by (on_objects (entered row)) >> by (looking (λ m. old_trait i m.traits))
  by (on_rows (object_class row t)) >> members value row t
object_of value row External = by (on_objects (entered row)) >> text plain >> by (λ m c. refuse no.externalizable 0 c)
object_of value row (Inline n dynamic) = do
  s ← by (on_objects (entered row)) >> text plain
  λ m c. inlined value row (trait_of s n dynamic c) m c

-- room for a body of n bytes, which its row shows at once; an empty one needs none
unfoldable pub room : ℕ → ℕ → Reader Span
room row zero = ret no_span
room row (suc n) = do
  s ← by (looking (λ m. reserved (suc n) m.store))
  by (on_rows (bodied row s)) >> ret s

-- n bytes of a text, of a raw body
unfoldable pub chars_of : Span → ℕ → Reader Bool
chars_of s zero = ret true
chars_of s (suc n) = chars s n 0

unfoldable pub filled : (ℕ → Reader Unit) → Span → ℕ → Reader Unit
filled grow s zero = ret tt
filled grow s (suc n) = fill grow s n

-- a new value whose size word says n, by its kind
unfoldable pub new_of : Values → ℕ → Body → ℕ → Reader Unit
new_of value row xml n = do
  s ← room row n
  valid ← chars_of s n
  by (looking (λ m. judged valid)) >> by (on_rows (closed row))
new_of value row date n = do
  bits ← number number_more 0
  by (on_rows (date_end row bits))
new_of value row array n =
    pairs value row col_count 0 >> entries (λ done. value no_key) row col_count2 n 0 >> by (on_rows (closed row))
new_of value row bytes n = do
  s ← room row n
  filled (λ left. ret tt) s n >> by (on_rows (closed row))
new_of value row (raw w) n = do
  s ← room row (n * width_of w)
  b ← byte
  by (on_rows (flagged row (fixed b))) >> filled (λ left. by (on_rows (grown row w s left))) s s.size >> by (on_rows (closed row))
new_of value row objects n = do
  b ← byte
  s ← by (on_rows (flagged row (fixed b))) >> text plain
  star ← by (looking (λ m. starred s m.store))
  by (on_rows (vector_class row star s)) >> entries (λ done. value no_key) row col_count n 0 >> by (on_rows (closed row))
new_of value row dictionary n = do
  b ← byte
  by (on_rows (flagged row (weak b))) >> entries (couple value row) row col_count n 0 >> by (on_rows (closed row))

-- what a size word is followed by
unfoldable pub sized_of : Values → ℕ → Body → Size → Reader Unit
sized_of value row body (Old i) = by (λ m. on_rows (referred row i m.objects) m)
sized_of value row body (New n) = by (on_objects (entered row)) >> new_of value row body n

-- ---- values

-- what a marker is followed by
unfoldable pub marked : Values → ℕ → Kind → Reader Unit
marked value row leaf = ret tt
marked value row integer = do
  w ← u29 word_more 0
  by (on_rows (integer_end row w))
marked value row double = do
  bits ← number number_more 0
  by (on_rows (numbered row bits))
marked value row string = do
  s ← text (λ s. by (on_rows (bodied row s)))
  by (on_rows (bodied row s)) >> by (on_rows (closed row))
marked value row object = do
  w ← u29 word_more 0
  object_of value row (shape_of w)
marked value row (sized body) = do
  w ← u29 word_more 0
  sized_of value row body (size_of w)

-- a value, where so many may still open: at 0 its marker is refused
unfoldable pub value : ℕ → Values
value zero k = do
  b ← byte
  by (on_rows (marker k zero b)) >> by (λ m c. lost)
value (suc left) k = do
  b ← byte
  row ← by (on_rows (marker k (suc left) b))
  marked (value left) row (kind_of b)

-- ---- a message

-- how a reading ended, with the memory that it left: the cursor tells what was used and taken; or the refusal's number, told value and place
pub data Ended : Type 0 where
  finished : Cursor → Memory → Ended
  refused : ℕ → ℕ → ℕ → Memory → Ended

-- a refusal sets every loan to zero
abbrev pub refusal : ℕ → ℕ → ℕ → Memory → Ended
refusal n told place m = refused n told place (zeroed m)

unfoldable pub ended : Result Unit → Ended
ended (ok x m c bs) = finished c m
ended (bad n told place m) = refusal n told place m

-- refusal 1 leaves the loans as found
abbrev pub unless_fault : ℕ → Memory → Ended → Ended
unless_fault zero m e = e
unless_fault (suc loan) m e = refused no.bad_loan (suc loan) 0 m

unfoldable pub reading : Memory → List ℕ → Ended
reading m bs = unless_fault (fault_of m) m (ended (value open_limit no_key (zeroed m) fresh bs))
