use Rattle.writer.proofs.Streams as streams
use Rattle.writer.proofs.Bytes as bytes
use Rattle.writer.proofs.Writer.numbers.Goals as goal

pub returns-in_err-flagged : goal.returns-in_err-flagged
returns-in_err-flagged c =
    streams.leaves _ c.from_residual.ensures.1 (bytes.raw-by _ _ _ _ (streams.puts_stop _ (λ R B. c.args.part.now) c.in_err-flagged.ensures))

pub returns : goal.returns
returns c = bytes.raw-by _ _ _ _ (streams.puts_go _ _ c.in_ok-flagged.ensures c.bytes.ensures)
