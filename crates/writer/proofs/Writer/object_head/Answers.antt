use native.Mathlib.Omega.{arith}
use mathlib.Core.Path.{refl}
use Rattle.writer.proofs.Streams as streams
use Rattle.writer.proofs.Bounds as bounds
use Rattle.writer.proofs.Nodes as nodes
use Rattle.writer.proofs.Writer.object_head.Goals as goal

pub trait_word-word-requires : goal.trait_word-word-requires
trait_word-word-requires c = omega (arith, bounds.two-few c.requires c.column-count.ensures (omega arith) refl c.column.ensures)

pub returns-in_err-head : goal.returns-in_err-head
returns-in_err-head c =
    λ f. streams.leaves _ c.from_residual.ensures.1 (nodes.object_head-by f c.args.j c.column-count.ensures c.column.ensures c.trait_word-word.ensures
    (streams.puts_stop _ _ (streams.puts_stop _ _ c.in_err-head.ensures)))

pub returns-in_err-class : goal.returns-in_err-class
returns-in_err-class c =
    λ f. streams.leaves _ c.from_residual-in_err-class.ensures.1
    (nodes.object_head-by f c.args.j c.column-count.ensures c.column.ensures c.trait_word-word.ensures (streams.puts_stop _ _
    (streams.puts_go _ _ c.in_ok-head.ensures c.in_err-class.ensures)))

pub overflow_add-j : goal.overflow_add-j
overflow_add-j c = omega (arith, bounds.two-few c.requires c.column-count.ensures (omega arith) refl c.column.ensures)

pub returns : goal.returns
returns c =
    λ f. nodes.object_head-by f c.args.j c.column-count.ensures c.column.ensures c.trait_word-word.ensures (streams.puts_go _ _
    (streams.puts_go _ _ c.in_ok-head.ensures c.in_ok-class.ensures) (c.names.ensures f))
