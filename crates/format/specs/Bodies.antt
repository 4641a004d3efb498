-- What the bytes of a value are, by their kind: words that the standard and the reading share.
use Rattle.std.specs.Prelude.{ℕ}

-- the bytes of a raw vector's entry
pub data Width : Type 0 where
  four eight : Width

abbrev pub width_of : Width → ℕ
width_of four = 4
width_of eight = 8

-- what the size word of a value is of
pub data Body : Type 0 where
  xml date array bytes objects dictionary : Body
  raw : Width → Body

-- what follows a marker: nothing; a U29; eight bytes; a string; an object word; or a size word
pub data Kind : Type 0 where
  leaf integer double string object : Kind
  sized : Body → Kind
