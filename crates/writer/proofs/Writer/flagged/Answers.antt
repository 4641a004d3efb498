use Rattle.writer.proofs.Streams as streams
use Rattle.writer.proofs.Writer.flagged.Goals as goal

pub returns-in_err-head : goal.returns-in_err-head
returns-in_err-head c = streams.leaves _ c.from_residual.ensures.1 (streams.puts_stop _ _ (rw c.size_word.ensures at c.in_err-head.ensures))

pub returns : goal.returns
returns c = streams.puts_go _ _ (rw c.size_word.ensures at c.in_ok-head.ensures) (rw c.flag_byte.ensures at c.byte.ensures)
