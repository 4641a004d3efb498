-- What was stored, by the way that the test went.
use mathlib.Core.Path.{refl}
use Rattle.writer.proofs.Bytes as bytes
use Rattle.writer.proofs.Writer.byte.Goals as goal
use Rattle.writer.proofs.Writer.byte.Goals.{then-not-self, else-not-self}

pub returns-then-self : goal.returns-then-self
returns-then-self c = bytes.byte_past _ _ c.if-self.true

pub returns : goal.returns
returns c =
    bytes.byte_stored _ _ c.if-self.false (elim c.if-not-self.branch [
      | then-not-self w ↦ bytes.stored-real _ _ 1 w.self-is w.if-not-self.true refl
      | else-not-self w ↦ bytes.stored-dry _ _ 1 w.self-is w.if-not-self.false
    ])
