use Rattle.wire.proofs.Big.{bytes-of_eight}
use Rattle.writer.proofs.Writer.eight.Goals as goal

pub returns : goal.returns
returns c = rw (c.to_be_bytes.ensures, bytes-of_eight c.args.n) at c.bytes.ensures
