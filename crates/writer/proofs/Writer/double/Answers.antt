use Rattle.format.specs.Standard.{encode_plain}
use Rattle.writer.proofs.Streams as streams
use Rattle.writer.proofs.Writer.double.Goals as goal

pub returns-in_err-byte : goal.returns-in_err-byte
unfolding encode_plain
returns-in_err-byte c = streams.leaves _ c.from_residual.ensures.1 (streams.puts_stop _ _ c.in_err-byte.ensures)

pub returns : goal.returns
unfolding encode_plain
returns c = streams.puts_go _ _ c.in_ok-byte.ensures c.eight.ensures
