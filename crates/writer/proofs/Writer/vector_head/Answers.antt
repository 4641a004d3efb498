use native.Mathlib.Omega.{arith}
use mathlib.Core.Path.{refl}
use Rattle.writer.proofs.Streams as streams
use Rattle.writer.proofs.Bounds as bounds
use Rattle.writer.proofs.Nodes as nodes
use Rattle.writer.proofs.Writer.vector_head.Goals as goal

pub flagged-requires : goal.flagged-requires
flagged-requires c = omega (arith, bounds.vector-few c.requires c.column-count.ensures refl)

pub returns-in_err-flagged : goal.returns-in_err-flagged
returns-in_err-flagged c =
    λ f. streams.leaves _ c.from_residual.ensures.1 (nodes.vector_head-by f c.args.j c.column-count.ensures c.column-flag.ensures
    (streams.puts_stop _ _ c.in_err-flagged.ensures))

pub returns : goal.returns
returns c =
    λ f. nodes.vector_head-by f c.args.j c.column-count.ensures c.column-flag.ensures (streams.puts_go _ _ c.in_ok-flagged.ensures c.class.ensures)
