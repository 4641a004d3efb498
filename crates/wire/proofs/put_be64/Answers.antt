-- The eight bytes.
use mathlib.Core.Path.{ap, ◌∙◌}
use Rattle.wire.specs.Put.{put_at}
use Rattle.wire.proofs.Big.{bytes-of_eight}
use Rattle.wire.proofs.put_be64.Goals as goal

pub returns : goal.returns
returns c = c.put_bytes.ensures ∙ ap (put_at c.args.out.now c.args.at) (c.to_be_bytes.ensures ∙ bytes-of_eight c.args.n)
