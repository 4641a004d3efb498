-- A U29, byte by byte.
use Rattle.std.specs.Prelude.{Ok, Err}
use Rattle.scan.proofs.Words.{reads_word, word_below}
use Rattle.scan.proofs.message.word.Goals as goal

pub returns : goal.returns
returns c = (
  λ m. reads_word m c.args.message.now (λ i. (c.type_inv.message i).fits)
      c.args.c c.within.ensures c.read_u29.ensures,
  word_below c.args.c c.args.message.now _
      (λ i. (c.type_inv.message i).fits) c.within.ensures c.read_u29.ensures,
)
