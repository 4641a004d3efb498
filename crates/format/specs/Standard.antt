-- AMF 3 itself: trees, the tables of texts, objects and traits, reading one value with no limit, and writing one with no references.
-- Written from Adobe's "AMF 3 Specification" (January 2013), whose sections stand in brackets. What is marked "scope" is document 01's: the refusals, what
-- a tree keeps of a class or a flag, and that a reference may have any kind.
use Rattle.std.specs.Prelude.{Bool, true, false, cond, not, List, [], ◌∷◌, ◌++◌, ℕ, zero, suc, ◌+◌, ◌*◌, ◌-◌, ◌/◌, ◌%◌, ◌^◌, ltb, eqb, ℤ, length, get_or, set}
use Rattle.std.proofs.Math.Option.{Option, none, some}
use Rattle.wire.specs.declared.Size.{Size}
use Rattle.wire.specs.declared.Size.TheVariants.{Old, New}
use Rattle.wire.specs.declared.Shape.{Shape}
use Rattle.wire.specs.declared.Shape.TheVariants.{Object, Known, External, Inline}
use Rattle.wire.specs.U29.{u29}
use Rattle.wire.specs.Sign.{integer_of, bits_at}
use Rattle.wire.specs.Big.{number_of, bytes_of}
use Rattle.wire.specs.Date.{refused_date}
use Rattle.utf8.specs.Grammar.{valid_text}
use Rattle.format.specs.Refusals as no
use Rattle.format.specs.Bodies as k
use Rattle.format.specs.Bodies.{Kind, Body, width_of}
use Rattle.format.specs.Readers.{ResultOf, ReaderOf, ok, bad, ◌>>=◌, ret}

-- ---- trees

-- a value that holds no others; a raw vector has its bytes, and whether it is fixed [3.2 to 3.10, 3.13 to 3.15]
pub data Plain : Type 0 where
  undefined null : Plain
  boolean : Bool → Plain
  integer : ℤ → Plain
  double date : ℕ → Plain  -- the 64 bits
  string xml_document xml byte_array : List ℕ → Plain
  int_vector uint_vector double_vector : Bool → List ℕ → Plain

-- a value [3.11, 3.12, 3.15, 3.16]
mutual
  pub data Tree : Type 0 where
    plain : Plain → Tree
    array : Pairs → Trees → Tree  -- associative, dense
    object : Option (List ℕ) → Pairs → Pairs → Tree  -- class, sealed, dynamic
    object_vector : Bool → Option (List ℕ) → Trees → Tree  -- fixed, class
    dictionary : Bool → Entries → Tree  -- weak

  pub data Trees : Type 0 where
    nil : Trees
    cons : Tree → Trees → Trees

  pub data Pairs : Type 0 where
    no_pairs : Pairs
    pair : List ℕ → Tree → Pairs → Pairs

  pub data Entries : Type 0 where
    no_entries : Entries
    entry : Tree → Tree → Entries → Entries

-- ---- tables

-- a class, whether its objects are dynamic, its sealed names [3.12]
pub record Traits : Type 0 where
  pub class : List ℕ
  pub dynamic : ℕ
  pub names : List (List ℕ)

-- the three reference tables [2.2]; an object that is still open is none
pub record Tables : Type 0 where
  pub texts : List (List ℕ)
  pub objects : List (Option Tree)
  pub traits : List Traits

abbrev pub no_tables : Tables
no_tables = record { texts = []; objects = []; traits = [] }

abbrev pub with_text : List ℕ → Tables → Tables
with_text t s = record { texts = s.texts ++ t ∷ []; objects = s.objects; traits = s.traits }

abbrev pub with_objects : List (Option Tree) → Tables → Tables
with_objects o s = record { texts = s.texts; objects = o; traits = s.traits }

abbrev pub with_traits : Traits → Tables → Tables
with_traits t s = record { texts = s.texts; objects = s.objects; traits = s.traits ++ t ∷ [] }

-- readers over the tables and the bytes taken
abbrev pub Std : Type 0 → Type 0
Std A = ReaderOf Tables ℕ A

abbrev pub fail : {A : Type 0} → ℕ → ℕ → Std A
fail n told s p bs = bad n told p s

-- entry i of a table [2.2], or 4 (scope)
abbrev pub lookup : {A : Type 0} → (Tables → List A) → A → ℕ → Std A
lookup f d i s p bs = cond (ltb i (length (f s))) (ok (get_or (f s) i d) s p bs) (bad no.no_entry i p s)

abbrev pub change : {A : Type 0} → A → (Tables → Tables) → Std A
change a f s p bs = ok a (f s) p bs

-- ---- bytes, numbers and texts

-- the next byte, or 2 (scope)
unfoldable pub byte : Std ℕ
byte s p [] = bad no.unexpected_end 0 p s
byte s p (b ∷ bs) = ok b s (suc p) bs

unfoldable pub bytes : ℕ → Std (List ℕ)
bytes zero = ret []
bytes (suc n) = do
  b ← byte
  bs ← bytes n
  ret (b ∷ bs)

-- a U29 of which this byte and at most `left` more come, n so far [1.3.1]
unfoldable pub word : ℕ → ℕ → Std ℕ
word zero n = do
  b ← byte
  ret (n * 2 ^ 8 + b)
word (suc left) n = do
  b ← byte
  cond (ltb b (2 ^ 7)) (ret (n * 2 ^ 7 + b)) (word left (n * 2 ^ 7 + (b - 2 ^ 7)))

-- a word's low bit: 0 a reference by the rest, 1 a length or a count [1.3.2, 3.9 to 3.11, 3.13 to 3.16]
unfoldable pub size_says : ℕ → Size
size_says w = cond (eqb (w % 2) 0) (Old (w / 2)) (New (w / 2))

-- n bytes of text [1.3.2]; 8 if they are not valid (scope)
unfoldable pub chars : ℕ → Std (List ℕ)
chars n = do
  t ← bytes n
  cond (valid_text t) (ret t) (fail no.bad_text 0)

-- an empty string never enters the table [1.3.2, 2.2]
unfoldable pub kept_text : List ℕ → Std (List ℕ)
kept_text [] = ret []
kept_text (b ∷ t) = change (b ∷ t) (with_text (b ∷ t))

-- a string by its word: by reference, or new [1.3.2]
unfoldable pub text_of : Size → Std (List ℕ)
text_of (Old i) = lookup (λ s. s.texts) [] i
text_of (New n) = do
  t ← chars n
  kept_text t

unfoldable pub text : Std (List ℕ)
text = do
  w ← word 3 0
  text_of (size_says w)

-- ---- objects and traits

-- an object's word, by its low bits [3.12]: 0 a reference, 01 a reference to traits, 111 an externalizable class; 011 traits that follow, where the next bit
-- says that they are dynamic and the rest counts sealed names
unfoldable pub object_says : ℕ → Shape
object_says w =
    cond (eqb (w % 2) 0) (Object (w / 2))
    (cond (eqb (w % 4) 1) (Known (w / 4))
    (cond (eqb (w % 8) 7) External (Inline (w / 16) (w / 8 % 2))))

-- a new object, still open: its number [2.2]
unfoldable pub opened : Std ℕ
opened s p bs = ok (length s.objects) (with_objects (s.objects ++ none ∷ []) s) p bs

-- object i is this tree; other kinds than objects enter the table too [2.2]
unfoldable pub shut : ℕ → Tree → Std Tree
shut i t = change t (λ s. with_objects (set s.objects i (some t)) s)

-- an open one can't be given, 5 (scope)
unfoldable pub finished_object : ℕ → Option Tree → Std Tree
finished_object i none = fail no.open_object i
finished_object i (some t) = ret t

unfoldable pub object_at : ℕ → Std Tree
object_at i = do
  o ← lookup (λ s. s.objects) none i
  finished_object i o

-- sealed names [3.12]
unfoldable pub names : ℕ → Std (List (List ℕ))
names zero = ret []
names (suc n) = do
  x ← text
  xs ← names n
  ret (x ∷ xs)

abbrev pub enter_traits : Traits → Std Traits
enter_traits t = change t (with_traits t)

-- new traits: the class, then the names; [3.12]; they enter their table after the last name (scope)
unfoldable pub new_traits : ℕ → ℕ → Std Traits
new_traits n dynamic = do
  x ← text
  xs ← names n
  enter_traits (record { class = x; dynamic = dynamic; names = xs })

-- an empty class name means none [3.12]; so does `*` for a vector (scope)
unfoldable pub class_given : List ℕ → Option (List ℕ)
class_given [] = none
class_given (b ∷ t) = some (b ∷ t)

abbrev pub is_star : List ℕ → Bool
is_star [] = false
is_star (b ∷ []) = eqb b 0x2A
is_star (b ∷ c ∷ t) = false

unfoldable pub starred : List ℕ → Option (List ℕ)
starred t = cond (is_star t) none (some t)

-- ---- entries; `value` reads one value

-- dense values, entries of a vector [3.11, 3.15]
unfoldable pub trees : Std Tree → ℕ → Std Trees
trees value zero = ret nil
trees value (suc n) = do
  t ← value
  ts ← trees value n
  ret (cons t ts)

-- values of sealed names [3.12]
unfoldable pub sealed : Std Tree → List (List ℕ) → Std Pairs
sealed value [] = ret no_pairs
sealed value (x ∷ xs) = do
  t ← value
  ts ← sealed value xs
  ret (pair x t ts)

-- the rest of the pairs, after a key: an empty one ends them
unfoldable pub pairs_from : Std Tree → Std Pairs → List ℕ → Std Pairs
pairs_from value more [] = ret no_pairs
pairs_from value more (b ∷ x) = do
  t ← value
  ts ← more
  ret (pair (b ∷ x) t ts)

-- pairs up to an empty key [3.11, 3.12]; f is no less than the bytes left, so that it never runs out before them
unfoldable pub pairs : Std Tree → ℕ → Std Pairs
pairs value zero = fail no.unexpected_end 0
pairs value (suc f) = do
  x ← text
  pairs_from value (pairs value f) x

-- dynamic members follow if the traits say so [3.12]
unfoldable pub dynamics : Std Tree → ℕ → ℕ → Std Pairs
dynamics value f zero = ret no_pairs
dynamics value f (suc y) = pairs value f

-- keys and values of a dictionary [3.16]
unfoldable pub entries : Std Tree → ℕ → Std Entries
entries value zero = ret no_entries
entries value (suc n) = do
  a ← value
  b ← value
  es ← entries value n
  ret (entry a b es)

-- ---- values

-- an object that is number i, by its traits [3.12]
unfoldable pub members : Std Tree → ℕ → ℕ → Traits → Std Tree
members value f i t = do
  xs ← sealed value t.names
  ys ← dynamics value f t.dynamic
  shut i (object (class_given t.class) xs ys)

-- an object by its word [3.12]; an externalizable one is refused by 6 after its class (scope)
unfoldable pub object_of : Std Tree → ℕ → Shape → Std Tree
object_of value f (Object i) = object_at i
object_of value f (Known j) = do
  i ← opened
  t ← lookup (λ s. s.traits) (record { class = []; dynamic = 0; names = [] }) j
  members value f i t
object_of value f External = do
  _ ← opened
  _ ← text
  fail no.externalizable 0
object_of value f (Inline n dynamic) = do
  i ← opened
  t ← new_traits n dynamic
  members value f i t

-- a date is a double [3.10]; 7 where it isn't finite (scope)
abbrev pub dated : ℕ → Std Tree
dated bits = cond (refused_date bits) (fail no.bad_date bits) (ret (plain (date bits)))

-- what marker b makes of a text, of raw bytes
abbrev pub xml_of : ℕ → List ℕ → Plain
xml_of b t = cond (eqb b 0x07) (xml_document t) (xml t)

abbrev pub vector_of : ℕ → Bool → List ℕ → Plain
vector_of b fixed t = cond (eqb b 0x0D) (int_vector fixed t) (cond (eqb b 0x0E) (uint_vector fixed t) (double_vector fixed t))

-- what a size word n of marker b is followed by: texts and bytes [3.9, 3.13, 3.14], a date's eight bytes [3.10], an array's pairs and values [3.11], a vector's
-- fixed flag, which any byte but 0 sets (scope), and entries [3.15], a dictionary's weak flag, which only 1 sets (scope), and entries [3.16]
unfoldable pub new_of : Std Tree → ℕ → ℕ → Body → ℕ → Std Tree
new_of value f b k.xml n = do
  t ← chars n
  ret (plain (xml_of b t))
new_of value f b k.date n = do
  t ← bytes 8
  dated (number_of 0 t)
new_of value f b k.array n = do
  xs ← pairs value f
  ts ← trees value n
  ret (array xs ts)
new_of value f b k.bytes n = do
  t ← bytes n
  ret (plain (byte_array t))
new_of value f b (k.raw w) n = do
  flag ← byte
  t ← bytes (n * width_of w)
  ret (plain (vector_of b (not (eqb flag 0)) t))
new_of value f b k.objects n = do
  flag ← byte
  x ← text
  ts ← trees value n
  ret (object_vector (not (eqb flag 0)) (starred x) ts)
new_of value f b k.dictionary n = do
  flag ← byte
  es ← entries value n
  ret (dictionary (eqb flag 1) es)

-- a reference, of whatever kind (scope), or a new value [2.2]
unfoldable pub sized_of : Std Tree → ℕ → ℕ → Body → Size → Std Tree
sized_of value f b body (Old i) = object_at i
sized_of value f b body (New n) = do
  i ← opened
  t ← new_of value f b body n
  shut i t

-- undefined, null, false, true [3.2 to 3.5]
abbrev pub leaf_of : ℕ → Plain
leaf_of b = get_or (undefined ∷ null ∷ boolean false ∷ boolean true ∷ []) b null

-- what marker b is followed by: nothing [3.2 to 3.5], an integer's word [3.6], a double's eight bytes [3.7], a string [3.8], an object's word [3.12], a size word
unfoldable pub marked : Std Tree → ℕ → ℕ → Kind → Std Tree
marked value f b k.leaf = ret (plain (leaf_of b))
marked value f b k.integer = do
  w ← word 3 0
  ret (plain (integer (integer_of w)))
marked value f b k.double = do
  t ← bytes 8
  ret (plain (double (number_of 0 t)))
marked value f b k.string = do
  t ← text
  ret (plain (string t))
marked value f b k.object = do
  w ← word 3 0
  object_of value f (object_says w)
marked value f b (k.sized body) = do
  w ← word 3 0
  sized_of value f b body (size_says w)

-- the markers [3.1], from undefined to dictionary
unfoldable pub follows : ℕ → Kind
follows b =
    get_or (
    k.leaf  -- 00 undefined
    ∷ k.leaf  -- 01 null
    ∷ k.leaf  -- 02 false
    ∷ k.leaf  -- 03 true
    ∷ k.integer  -- 04
    ∷ k.double  -- 05
    ∷ k.string  -- 06
    ∷ k.sized k.xml  -- 07 XMLDocument
    ∷ k.sized k.date  -- 08
    ∷ k.sized k.array  -- 09
    ∷ k.object  -- 0A
    ∷ k.sized k.xml  -- 0B XML
    ∷ k.sized k.bytes  -- 0C ByteArray
    ∷ k.sized (k.raw k.four)  -- 0D vector of int
    ∷ k.sized (k.raw k.four)  -- 0E of uint
    ∷ k.sized (k.raw k.eight)  -- 0F of double
    ∷ k.sized k.objects  -- 10 of objects
    ∷ k.sized k.dictionary  -- 11
    ∷ []
    ) b k.leaf

-- a value; 3 for other markers (scope); neither f nor d is less than the bytes left, so that neither runs out before them
unfoldable pub value : ℕ → ℕ → Std Tree
value f zero = fail no.unexpected_end 0
value f (suc d) = do
  b ← byte
  cond (ltb 0x11 b) (fail no.bad_marker b) (marked (value f d) f b (follows b))

-- one value at the beginning of a message, with fresh tables
unfoldable pub standard : List ℕ → ResultOf Tables ℕ Tree
standard bs = value (suc (length bs)) (suc (length bs)) no_tables 0 bs

-- ---- writing

unfoldable pub count : Trees → ℕ
count nil = 0
count (cons t ts) = suc (count ts)

unfoldable pub count_pairs : Pairs → ℕ
count_pairs no_pairs = 0
count_pairs (pair x t ps) = suc (count_pairs ps)

unfoldable pub count_entries : Entries → ℕ
count_entries no_entries = 0
count_entries (entry a b es) = suc (count_entries es)

-- the size word of a new one [1.3.2]
abbrev pub size_bytes : ℕ → List ℕ
size_bytes n = u29 (n * 2 + 1)

abbrev pub text_bytes : List ℕ → List ℕ
text_bytes t = size_bytes (length t) ++ t

unfoldable pub name_bytes : Pairs → List ℕ
name_bytes no_pairs = []
name_bytes (pair x t ps) = text_bytes x ++ name_bytes ps

abbrev pub flag_byte : Bool → ℕ
flag_byte b = cond b 1 0

abbrev pub class_bytes : List ℕ → Option (List ℕ) → List ℕ
class_bytes default none = text_bytes default
class_bytes default (some t) = text_bytes t

-- the word of new traits [3.12]: an object without dynamic members is written as not dynamic (scope)
unfoldable pub trait_word : Pairs → Pairs → ℕ
trait_word xs no_pairs = count_pairs xs * 16 + 3
trait_word xs (pair x t ys) = count_pairs xs * 16 + 11

-- a value that holds no others, with its marker [3.2 to 3.10, 3.13 to 3.15]
unfoldable pub encode_plain : Plain → List ℕ
encode_plain undefined = 0x00 ∷ []
encode_plain null = 0x01 ∷ []
encode_plain (boolean false) = 0x02 ∷ []
encode_plain (boolean true) = 0x03 ∷ []
encode_plain (integer v) = 0x04 ∷ u29 (bits_at 28 v)
encode_plain (double bits) = 0x05 ∷ bytes_of 8 bits
encode_plain (string t) = 0x06 ∷ text_bytes t
encode_plain (xml_document t) = 0x07 ∷ text_bytes t
encode_plain (date bits) = 0x08 ∷ 0x01 ∷ bytes_of 8 bits
encode_plain (xml t) = 0x0B ∷ text_bytes t
encode_plain (byte_array t) = 0x0C ∷ text_bytes t
encode_plain (int_vector fixed t) = 0x0D ∷ size_bytes (length t / 4) ++ flag_byte fixed ∷ t
encode_plain (uint_vector fixed t) = 0x0E ∷ size_bytes (length t / 4) ++ flag_byte fixed ∷ t
encode_plain (double_vector fixed t) = 0x0F ∷ size_bytes (length t / 8) ++ flag_byte fixed ∷ t

-- what stands before the pairs of an array, and before the values of the others
unfoldable pub array_head : Trees → List ℕ
array_head ts = 0x09 ∷ size_bytes (count ts)

unfoldable pub object_head : Option (List ℕ) → Pairs → Pairs → List ℕ
object_head class xs ys = 0x0A ∷ u29 (trait_word xs ys) ++ class_bytes [] class ++ name_bytes xs

unfoldable pub vector_head : Bool → Option (List ℕ) → Trees → List ℕ
vector_head fixed class ts = 0x10 ∷ size_bytes (count ts) ++ flag_byte fixed ∷ class_bytes (0x2A ∷ []) class

unfoldable pub dictionary_head : Bool → Entries → List ℕ
dictionary_head weak es = 0x11 ∷ size_bytes (count_entries es) ++ flag_byte weak ∷ []

-- a value, with no references [3.11, 3.12, 3.15, 3.16]
unfoldable mutual
  pub encode : Tree → List ℕ
  encode (plain p) = encode_plain p
  encode (array xs ts) = array_head ts ++ encode_pairs xs ++ 0x01 ∷ encode_trees ts
  encode (object class xs ys) = object_head class xs ys ++ encode_values xs ++ encode_dynamic ys
  encode (object_vector fixed class ts) = vector_head fixed class ts ++ encode_trees ts
  encode (dictionary weak es) = dictionary_head weak es ++ encode_entries es

  pub encode_trees : Trees → List ℕ
  encode_trees nil = []
  encode_trees (cons t ts) = encode t ++ encode_trees ts

  -- keys with values
  pub encode_pairs : Pairs → List ℕ
  encode_pairs no_pairs = []
  encode_pairs (pair x t ps) = text_bytes x ++ encode t ++ encode_pairs ps

  -- sealed members: their names stand before
  pub encode_values : Pairs → List ℕ
  encode_values no_pairs = []
  encode_values (pair x t ps) = encode t ++ encode_values ps

  pub encode_dynamic : Pairs → List ℕ
  encode_dynamic no_pairs = []
  encode_dynamic (pair x t ps) = text_bytes x ++ encode t ++ encode_pairs ps ++ 0x01 ∷ []

  pub encode_entries : Entries → List ℕ
  encode_entries no_entries = []
  encode_entries (entry a b es) = encode a ++ encode b ++ encode_entries es
