-- What a size word and an object word say.
use Rattle.std.specs.Prelude.{cond, ℕ, ◌/◌, ◌%◌, ◌^◌, eqb}
use Rattle.wire.specs.declared.Size.{Size}
use Rattle.wire.specs.declared.Size.TheVariants.{Old, New}
use Rattle.wire.specs.declared.Shape.{Shape}
use Rattle.wire.specs.declared.Shape.TheVariants.{Object, Known, External, Inline}

-- bit k of w
abbrev pub bit : ℕ → ℕ → ℕ
bit k w = w / 2 ^ k % 2

-- low bit 0 is a reference by the rest, 1 a length
unfoldable pub size_of : ℕ → Size
size_of w = cond (eqb (bit 0 w) 0) (Old (w / 2)) (New (w / 2))

-- an object's word: low bit 0 is a reference; counted after it, bit 0 clear is a trait reference, bit 1 externalizable, bit 2 dynamic, the rest counts sealed names
unfoldable pub shape_of : ℕ → Shape
shape_of w =
    cond (eqb (bit 0 w) 0) (Object (w / 2))
    (cond (eqb (bit 1 w) 0) (Known (w / 2 ^ 2))
    (cond (eqb (bit 2 w) 0) (Inline (w / 2 ^ 4) (bit 3 w)) External))
