use Rattle.writer.proofs.Streams as streams
use Rattle.writer.proofs.Writer.marked.Goals as goal

pub returns-in_err-byte : goal.returns-in_err-byte
returns-in_err-byte c = streams.leaves _ c.from_residual.ensures.1 (streams.puts_stop _ _ c.in_err-byte.ensures)

pub returns : goal.returns
returns c = streams.puts_go _ _ c.in_ok-byte.ensures c.text.ensures
