-- An object word: a reference, or an object among the objects, and its trait.
use mathlib.Core.Path.{sym, ◌∙◌}
use Rattle.parts.specs.Heads.{object_head, object_rest}
use Rattle.scan.proofs.Laws.{then, fails, given, chosen, alike, out-err}
use Rattle.parts.proofs.Shapes.{object-entered}
use Rattle.parts.proofs.object_head_steps.Goals as goal

pub returns-in_err-w : goal.returns-in_err-w
unfolding object_head
returns-in_err-w c = out-err c.from_residual.ensures (fails _ _ c.in_err-w.ensures.reads.0)

pub returns-in_err-referred : goal.returns-in_err-referred
unfolding object_head object_rest
returns-in_err-referred c = out-err c.from_residual-in_err-referred.ensures (then _ _ c.in_ok-w.ensures.reads.0 (chosen (object_rest _) (sym c.in-Object.is ∙ c.shape_of-shape.ensures) (fails _ _ c.in_err-referred.ensures.reads)))

pub returns-in-Object : goal.returns-in-Object
unfolding object_head object_rest
returns-in-Object c = then _ _ c.in_ok-w.ensures.reads.0 (chosen (object_rest _) (sym c.in-Object.is ∙ c.shape_of-shape.ensures) (then _ _ c.in_ok-referred.ensures.reads given))

pub returns-in_err-entered : goal.returns-in_err-entered
unfolding object_head
returns-in_err-entered c = out-err c.from_residual-in_err-entered.ensures (then _ _ c.in_ok-w.ensures.reads.0 (chosen (object_rest _) c.shape_of-shape.ensures (alike (sym (object-entered _ _ _ _ _ c.in_default.not-Object)) (fails _ _ c.in_err-entered.ensures.reads))))

pub returns-in-Known : goal.returns-in-Known
unfolding object_head object_rest
returns-in-Known c = then _ _ c.in_ok-w.ensures.reads.0 (chosen (object_rest _) (sym c.in-Known.is ∙ c.shape_of-shape.ensures) (then _ _ c.in_ok-entered.ensures.reads c.known_trait.ensures.reads))

pub returns-in-External : goal.returns-in-External
unfolding object_head object_rest
returns-in-External c = then _ _ c.in_ok-w.ensures.reads.0 (chosen (object_rest _) (sym c.in-External.is ∙ c.shape_of-shape.ensures) (then _ _ c.in_ok-entered.ensures.reads c.external.ensures.reads))

pub returns-in-Inline : goal.returns-in-Inline
unfolding object_head object_rest
returns-in-Inline c = then _ _ c.in_ok-w.ensures.reads.0 (chosen (object_rest _) (sym c.in-Inline.is ∙ c.shape_of-shape.ensures) (then _ _ c.in_ok-entered.ensures.reads c.new_trait.ensures.reads))
