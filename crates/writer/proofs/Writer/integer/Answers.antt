use mathlib.Core.Path.{ap}
use Rattle.format.specs.Writing.{these}
use Rattle.writer.proofs.Streams as streams
use Rattle.writer.proofs.Plains as plains
use Rattle.writer.proofs.Writer.integer.Goals as goal

pub unwrap-bits-requires : goal.unwrap-bits-requires
unwrap-bits-requires c =
    plains.integer_in _ (plains.column_bits _ (record { sfits = c.of_column.type_inv }) c.of_column.ensures c.integer_bits.ensures) c.requires

pub returns : goal.returns
returns c = streams.renamed _ _
    (ap these (plains.integer-bytes _ (plains.column_bits _ (record { sfits = c.of_column.type_inv }) c.of_column.ensures c.integer_bits.ensures) c.unwrap-bits.ensures))
    c.head.ensures
