-- The readings of a value's beginning, up to where its entries are read.
use Rattle.std.specs.Prelude.{Option, Some, None, ℕ, ◌+◌}
use Rattle.rows.specs.declared.Span.{Span}
use Rattle.rows.specs.declared.Trait.{Trait}
use Rattle.wire.specs.declared.Size.{Size}
use Rattle.wire.specs.declared.Size.TheVariants.{Old, New}
use Rattle.wire.specs.declared.Shape.{Shape}
use Rattle.wire.specs.declared.Shape.TheVariants.{Object, Known, External, Inline}
use Rattle.wire.specs.U29.{word_more}
use Rattle.wire.specs.Word.{size_of, shape_of}
use Rattle.format.specs.Decide.{refuse, looking, on_rows, on_objects, on_traits, object_class, entered, referred, old_trait, trait_of, trait_end}
use Rattle.format.specs.Decide.{fixed, flagged, starred, vector_class, bodied, closed, sealed_key}
use Rattle.format.specs.Reading.{Reader, Values, ◌>>=◌, ◌>>◌, ret, by, byte, u29, text, plain, names}
use Rattle.format.specs.Refusals as no

-- a size word: a reference, with nothing left to read, or a new value of a size
unfoldable pub size_rest : ℕ → Size → Reader (Option ℕ)
size_rest row (Old i) = by (λ m. on_rows (referred row i m.objects) m) >> ret None
size_rest row (New n) = by (on_objects (entered row)) >> ret (Some n)

unfoldable pub size_head : ℕ → Reader (Option ℕ)
size_head row = do
  w ← u29 word_more 0
  size_rest row (size_of w)

-- what stands behind a beginning, where something is left
abbrev pub on_rest : {A : Type 0} → (A → Reader Unit) → Option A → Reader Unit
on_rest f None = ret tt
on_rest f (Some a) = f a

-- a trait whose class is whole: its names, and its place in the traits
unfoldable pub inline_trait : ℕ → Trait → Reader (Option Trait)
inline_trait row t = by (on_rows (object_class row t)) >> names t.count >> by (on_traits (trait_end t)) >> ret (Some t)

unfoldable pub new_trait : ℕ → ℕ → ℕ → Reader (Option Trait)
new_trait row n dynamic = do
  s ← text plain
  λ m c. inline_trait row (trait_of s n dynamic c) m c

unfoldable pub known_trait : ℕ → ℕ → Reader (Option Trait)
known_trait row i = do
  t ← by (looking (λ m. old_trait i m.traits))
  by (on_rows (object_class row t)) >> ret (Some t)

unfoldable pub external_trait : Reader (Option Trait)
external_trait = text plain >> by (λ m c. refuse no.externalizable 0 c)

-- an object word: a reference, with nothing left to read, or an object of a trait
unfoldable pub object_rest : ℕ → Shape → Reader (Option Trait)
object_rest row (Object i) = by (λ m. on_rows (referred row i m.objects) m) >> ret None
object_rest row (Known i) = by (on_objects (entered row)) >> known_trait row i
object_rest row External = by (on_objects (entered row)) >> external_trait
object_rest row (Inline n dynamic) = by (on_objects (entered row)) >> new_trait row n dynamic

unfoldable pub object_head : ℕ → Reader (Option Trait)
object_head row = do
  w ← u29 word_more 0
  object_rest row (shape_of w)

-- a body that is whole, and its row's end
unfoldable pub last_body : ℕ → Span → Reader Unit
last_body row s = by (on_rows (bodied row s)) >> by (on_rows (closed row))

-- an object vector's flag and class
unfoldable pub vector_head : ℕ → Reader Unit
vector_head row = do
  b ← byte
  s ← by (on_rows (flagged row (fixed b))) >> text plain
  star ← by (looking (λ m. starred s m.store))
  by (on_rows (vector_class row star s))

-- ---- entries

-- a sealed member, after so many
abbrev pub sealed_member : Values → Trait → ℕ → Reader Unit
sealed_member value t done = by (looking (λ m. sealed_key (t.first + done) m.names)) >>= value
