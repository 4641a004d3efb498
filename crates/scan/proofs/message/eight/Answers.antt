-- Eight bytes, one by one.
use Rattle.scan.proofs.Words.{reads-eight}
use Rattle.scan.proofs.message.eight.Goals as goal

pub returns : goal.returns
returns c = λ m. reads-eight m c.args.message.now (λ i. (c.type_inv.message i).fits)
    c.args.c c.within.ensures c.read_be64.ensures
