-- A row for the value, and what follows its marker.
use native.Mathlib.Omega.{arith}
use Rattle.rows.specs.Memory.{open_limit}
use Rattle.format.specs.Decide.{kind_of}
use Rattle.format.specs.Step.{begun}
use Rattle.states.proofs.Frames.{length-frames}
use Rattle.resume.proofs.Moves.{as_here, stopped_by, after_it}
use Rattle.step.proofs.Markers.{marks, marker_room}
use Rattle.step.proofs.marking.Goals as goal

pub returns-in_err-row-clause-steps : goal.returns-in_err-row-clause-steps
unfolding open_limit
returns-in_err-row-clause-steps c =
    as_here (stopped_by (λ ts row. begun ts row (kind_of c.args.b)) c.in_err-row.ensures.decided c.from_residual.ensures)
    (marks _ _ c.args.b c.args.f.now.depth _ _ _ (length-frames c.args.f.now.frames.now c.args.f.now.depth) c.shown.ensures)

pub begun-requires : goal.begun-requires
begun-requires c = omega (arith, c.in_ok-row.ensures.decided.inside.depth, marker_room _ _ c.in_ok-row.ensures.decided)

pub returns-clause-steps : goal.returns-clause-steps
unfolding open_limit
returns-clause-steps c =
    as_here (after_it (λ ts row. begun ts row (kind_of c.args.b)) c.in_ok-row.ensures.decided c.begun.ensures.steps)
    (marks _ _ c.args.b c.args.f.now.depth _ _ _ (length-frames c.args.f.now.frames.now c.args.f.now.depth) c.shown.ensures)
