-- The frame is laid, and a marker is next.
use Rattle.std.proofs.Common.{refl}
use Rattle.resume.proofs.Moves.{opens, waiting, kept}
use Rattle.resume.proofs.Feeding.open_next.Goals as goal

pub returns-clause-goes : goal.returns-clause-goes
returns-clause-goes c = waiting (opens c.marker_work.ensures c.put_frame.ensures refl refl refl (kept c.args.self.now))
