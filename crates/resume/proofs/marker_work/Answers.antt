-- A work of a marker.
use Rattle.std.proofs.Common.{rules}
use Rattle.format.specs.Numbers.{work_of}
use Rattle.resume.proofs.marker_work.Goals as goal

pub returns : goal.returns
unfolding work_of
returns c = search rules
