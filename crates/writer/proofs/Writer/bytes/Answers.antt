-- What was stored, by the way that the tests went.
use Rattle.writer.proofs.Bytes as bytes
use Rattle.writer.proofs.Writer.bytes.Goals as goal
use Rattle.writer.proofs.Writer.bytes.Goals.{then-not-self+then-n-gt0, else-not-self, else-not-self-via-then-not-self+else-n-gt0, else-not-self-via-else-not-self}

pub returns-then-n-part : goal.returns-then-n-part
returns-then-n-part c =
    bytes.short _ _ _ c.saturating_sub-room.ensures c.min-n.ensures (elim c.if-not-self.branch [
      | then-not-self+then-n-gt0 w ↦ bytes.stored-real _ _ _ w.self-is w.if-not-self.true w.copy.ensures
      | else-not-self w ↦ elim w.else-not-self.branch [
        | else-not-self-via-then-not-self+else-n-gt0 w' ↦ bytes.stored_none _ _ _ w.self-is w'.if-n-gt0.false
        | else-not-self-via-else-not-self w' ↦ bytes.stored-dry _ _ _ w.self-is w'.if-not-self.false
      ]
    ]) c.if-n-part.true

pub returns : goal.returns
returns c =
    bytes.whole _ _ _ c.saturating_sub-room.ensures c.min-n.ensures (elim c.if-not-self.branch [
      | then-not-self+then-n-gt0 w ↦ bytes.stored-real _ _ _ w.self-is w.if-not-self.true w.copy.ensures
      | else-not-self w ↦ elim w.else-not-self.branch [
        | else-not-self-via-then-not-self+else-n-gt0 w' ↦ bytes.stored_none _ _ _ w.self-is w'.if-n-gt0.false
        | else-not-self-via-else-not-self w' ↦ bytes.stored-dry _ _ _ w.self-is w'.if-not-self.false
      ]
    ]) c.if-n-part.false
