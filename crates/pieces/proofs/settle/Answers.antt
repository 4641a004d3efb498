-- Refused or not.
use mathlib.Core.Path.{sym, refl, ◌∙◌}
use Rattle.pieces.proofs.Steps.{settles_err, settles_ok}
use Rattle.pieces.proofs.settle.Goals as goal

pub returns-then-is_err-clause-settled : goal.returns-then-is_err-clause-settled
returns-then-is_err-clause-settled c = settles_err _ _ _ (sym c.is_err.ensures.value ∙ c.if-is_err.true) c.clear.ensures.0

pub returns-else-is_err-clause-settled : goal.returns-else-is_err-clause-settled
returns-else-is_err-clause-settled c = settles_ok _ _ _ (sym c.is_err.ensures.value ∙ c.if-is_err.false) refl
