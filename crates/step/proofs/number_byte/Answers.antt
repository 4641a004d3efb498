-- By what the byte makes of the number.
use native.Mathlib.Omega.{arith}
use mathlib.Core.Path.{sym, ap, ◌∙◌}
use Rattle.std.specs.Prelude.{Some}
use Rattle.wire.proofs.Big.{digit-within}
use Rattle.states.proofs.Purposes.{number-work}
use Rattle.resume.proofs.Moves.{as_is, refuses, waits}
use Rattle.step.proofs.Parts.{number-lost, number-more, number-whole}
use Rattle.step.proofs.number_byte.Goals as goal

pub overflow_sub-w : goal.overflow_sub-w
overflow_sub-w c = (digit-within _ _ _ _ (omega arith) (sym c.be64_byte.ensures ∙ c.in-Some-More.is ∙ ap Some c.in-Some-More.field-0-is)).0

pub returns-in-None-clause-steps : goal.returns-in-None-clause-steps
returns-in-None-clause-steps c = refuses (number-lost c.args.w c.requires.number c.args.b _ _ _ (sym c.be64_byte.ensures ∙ c.in-None.is) ∙ rw c.lost.ensures)

pub returns-in-Some-More-clause-steps : goal.returns-in-Some-More-clause-steps
returns-in-Some-More-clause-steps c =
    as_is (λ ts k m. number-more c.args.w c.requires.number c.args.b ts k m _ (sym c.be64_byte.ensures ∙ c.in-Some-More.is ∙ ap Some c.in-Some-More.field-0-is))
    (waits (c.row_work.ensures ∙ number-work c.args.w _ _ c.requires.number))

pub returns-in-Some-Whole-clause-steps : goal.returns-in-Some-Whole-clause-steps
returns-in-Some-Whole-clause-steps c =
    as_is (λ ts k m. number-whole c.args.w c.requires.number c.args.b ts k m _ (sym c.be64_byte.ensures ∙ c.in-Some-Whole.is ∙ ap Some c.in-Some-Whole.field-0-is))
    c.number_done.ensures.steps
