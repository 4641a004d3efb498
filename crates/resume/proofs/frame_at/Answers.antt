-- Six numbers from their places.
use Rattle.std.proofs.Common.{refl}
use Rattle.format.specs.Numbers.{frame_at}
use Rattle.resume.proofs.frame_at.Goals as goal

pub returns : goal.returns
unfolding frame_at
returns c = refl
