-- An object word that is no reference: the object is entered, and its trait follows.
use mathlib.Core.Path.{◌≡◌, refl}
use Rattle.std.specs.Prelude.{Option, None}
use mathlib.Core.List.{List}
use Prim.Native.Nat.{ℕ}
use Rattle.rows.specs.declared.Cursor.{Cursor}
use Rattle.rows.specs.declared.Trait.{Trait}
use Rattle.rows.specs.Memory.{Memory}
use Rattle.wire.specs.declared.Shape.{Shape}
use Rattle.wire.specs.declared.Shape.TheVariants.{Object, Known, External, Inline}
use Rattle.format.specs.Decide.{on_objects, entered}
use Rattle.format.specs.Reading.{Reader, ◌>>◌, ret, by}
use Rattle.scan.specs.Reads.{reads}
use Rattle.parts.specs.Heads.{object_rest, known_trait, external_trait, new_trait}

-- what follows an object that was entered; a reference never is
abbrev pub trait_after : ℕ → Shape → Reader (Option Trait)
trait_after row (Object i) = ret None
trait_after row (Known i) = known_trait row i
trait_after row External = external_trait
trait_after row (Inline n dynamic) = new_trait row n dynamic

abbrev pub entered_trait : ℕ → Shape → Reader (Option Trait)
entered_trait row x = by (on_objects (entered row)) >> trait_after row x

pub object-entered : (row : ℕ) (x : Shape) (m : Memory) (c : Cursor) (s : List ℕ) → ((i : ℕ) → x ≡ Object i → ⊥)
    → reads (object_rest row x) m c s ≡ reads (entered_trait row x) m c s
unfolding object_rest
object-entered row (Object i) m c s k = absurd (k i refl)
object-entered row (Known i) m c s k = refl
object-entered row External m c s k = refl
object-entered row (Inline n dynamic) m c s k = refl
