use Rattle.writer.proofs.Streams as streams
use Rattle.writer.proofs.Writer.text.Goals as goal

pub returns-in_err-u29 : goal.returns-in_err-u29
returns-in_err-u29 c = streams.leaves _ c.from_residual.ensures.1 (streams.puts_stop _ _ (rw c.size_word.ensures at c.in_err-u29.ensures))

pub returns : goal.returns
returns c = streams.puts_go _ _ (rw c.size_word.ensures at c.in_ok-u29.ensures) c.bytes.ensures
