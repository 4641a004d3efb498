-- The first byte ends it, or others follow.
use mathlib.Core.Path.{ap, ◌∙◌}
use Rattle.std.specs.Prelude.{Ok}
use Rattle.pieces.proofs.Drives.{took_over, took_not, took_ready, took_first}
use Rattle.pieces.proofs.take.Goals as goal

pub drive-requires-clause-ready : goal.drive-requires-clause-ready
drive-requires-clause-ready c =
    took_ready c.args.piece.now (λ i. (c.type_inv.piece i).fits) c.requires.going c.frame_numbers.ensures c.requires.some c.next.ensures _ (c.in-Ok-Wait.is ∙ ap Ok c.in-Ok-Wait.field-0-is)

pub returns-in-Ok-Wait : goal.returns-in-Ok-Wait
returns-in-Ok-Wait c =
    took_first c.args.piece.now (λ i. (c.type_inv.piece i).fits) c.requires.going c.frame_numbers.ensures c.requires.some c.next.ensures _ (c.in-Ok-Wait.is ∙ ap Ok c.in-Ok-Wait.field-0-is)
    c.drive.ensures

pub returns-in-Ok-Finished : goal.returns-in-Ok-Finished
returns-in-Ok-Finished c =
    took_over c.args.piece.now (λ i. (c.type_inv.piece i).fits) c.requires.going c.frame_numbers.ensures c.requires.some c.next.ensures
    (c.in-Ok-Finished.is ∙ ap Ok c.in-Ok-Finished.field-0-is)

pub returns-in-Err : goal.returns-in-Err
returns-in-Err c =
    took_not c.args.piece.now (λ i. (c.type_inv.piece i).fits) c.requires.going c.frame_numbers.ensures c.requires.some c.next.ensures _ _ c.in-Err.is c.cost.ensures
