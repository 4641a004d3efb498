-- The byte in its place, the count behind it, and the bytes that are left.
use Rattle.resume.proofs.Moves.{as_is, stopped_by, after_it}
use Rattle.step.proofs.Raws.{after_byte, after_count, raw-stored}
use Rattle.step.proofs.raw_byte.Goals as goal

pub returns-in_err-stored-clause-steps : goal.returns-in_err-stored-clause-steps
returns-in_err-stored-clause-steps c =
    as_is (raw-stored c.args.w c.args.b c.requires.bytes) (stopped_by (after_byte c.args.w) c.in_err-stored.ensures.decided c.from_residual.ensures)

pub returns-in_err-raw_grown-clause-steps : goal.returns-in_err-raw_grown-clause-steps
returns-in_err-raw_grown-clause-steps c =
    as_is (raw-stored c.args.w c.args.b c.requires.bytes)
    (after_it (after_byte c.args.w) c.in_ok-stored.ensures.decided (stopped_by (after_count c.args.w) c.in_err-raw_grown.ensures.decided c.from_residual-in_err-raw_grown.ensures))

pub returns-clause-steps : goal.returns-clause-steps
returns-clause-steps c =
    as_is (raw-stored c.args.w c.args.b c.requires.bytes)
    (after_it (after_byte c.args.w) c.in_ok-stored.ensures.decided (after_it (after_count c.args.w) c.in_ok-raw_grown.ensures.decided c.filling.ensures.steps))
