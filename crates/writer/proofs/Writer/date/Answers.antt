use Rattle.wire.specs.U29.{u29, more_of, groups}
use Rattle.format.specs.Standard.{encode_plain}
use Rattle.writer.proofs.Streams as streams
use Rattle.writer.proofs.Writer.date.Goals as goal

pub returns-in_err-head : goal.returns-in_err-head
unfolding encode_plain u29 more_of groups
returns-in_err-head c = streams.leaves _ c.from_residual.ensures.1 (streams.puts_stop _ _ c.in_err-head.ensures)

pub returns : goal.returns
unfolding encode_plain u29 more_of groups
returns c = streams.puts_go _ _ c.in_ok-head.ensures c.eight.ensures
