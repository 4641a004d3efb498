-- All taken, or the byte's.
use mathlib.Core.Path.{sym, ap, ◌∙◌}
use Rattle.resume.specs.Steps.{after_of}
use Rattle.resume.proofs.Moves.{refuses}
use Rattle.pieces.proofs.Steps.{too_long_step, act_step}
use Rattle.pieces.proofs.go_on.Goals as goal

pub returns-then-f-ge-MESSAGE_LIMIT : goal.returns-then-f-ge-MESSAGE_LIMIT
returns-then-f-ge-MESSAGE_LIMIT c = rw c.refuse.ensures (refuses (too_long_step _ _ _ _ _ c.if-f-ge-MESSAGE_LIMIT.true))

pub returns : goal.returns
returns c = record { turn = c.act.ensures.steps.turn ∙ ap (after_of _) (sym (act_step _ _ _ _ _ c.if-f-ge-MESSAGE_LIMIT.false)); same = c.act.ensures.steps.same }
