-- The four bytes.
use mathlib.Core.Path.{ap, ◌∙◌}
use lib.Bits.{and_mask}
use Rattle.std.specs.Int.{w32, to_be_bytes}
use Rattle.wire.specs.Put.{put_at}
use Rattle.wire.proofs.Big.{bytes-of_four}
use Rattle.wire.proofs.put_be32.Goals as goal

pub returns : goal.returns
returns c = c.put_bytes.ensures ∙ ap (put_at c.args.out.now c.args.at) (c.to_be_bytes.ensures ∙ ap (to_be_bytes w32) (and_mask c.args.n 32) ∙ bytes-of_four c.args.n)
