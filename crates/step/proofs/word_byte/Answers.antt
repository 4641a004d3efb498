-- By what the byte makes of the word.
use native.Mathlib.Omega.{arith}
use mathlib.Core.Path.{sym, ap, ◌∙◌}
use Rattle.std.specs.Prelude.{Some}
use Rattle.wire.proofs.U29.{part-within}
use Rattle.resume.proofs.Moves.{as_is, refuses, waits}
use Rattle.step.proofs.Parts.{whole-small, word-lost, word-more, word-whole, word-work-of}
use Rattle.step.proofs.word_byte.Goals as goal

pub overflow_sub-w : goal.overflow_sub-w
overflow_sub-w c = (part-within _ _ _ _ (omega arith) (sym c.u29_byte.ensures ∙ c.in-Some-More.is ∙ ap Some c.in-Some-More.field-0-is)).0

pub worded-requires-clause-small : goal.worded-requires-clause-small
worded-requires-clause-small c = whole-small _ _ _ _ (omega arith) (sym c.u29_byte.ensures ∙ c.in-Some-Whole.is ∙ ap Some c.in-Some-Whole.field-0-is)

pub returns-in-None-clause-steps : goal.returns-in-None-clause-steps
returns-in-None-clause-steps c = refuses (word-lost c.args.w c.requires.word c.args.b _ _ _ (sym c.u29_byte.ensures ∙ c.in-None.is) ∙ rw c.lost.ensures)

pub returns-in-Some-More-clause-steps : goal.returns-in-Some-More-clause-steps
returns-in-Some-More-clause-steps c =
    as_is (λ ts k m. word-more c.args.w c.requires.word c.args.b ts k m _ (sym c.u29_byte.ensures ∙ c.in-Some-More.is ∙ ap Some c.in-Some-More.field-0-is))
    (waits (c.word_work.ensures ∙ word-work-of c.args.w c.requires.word _ _))

pub returns-in-Some-Whole-clause-steps : goal.returns-in-Some-Whole-clause-steps
returns-in-Some-Whole-clause-steps c =
    as_is (λ ts k m. word-whole c.args.w c.requires.word c.args.b ts k m _ (sym c.u29_byte.ensures ∙ c.in-Some-Whole.is ∙ ap Some c.in-Some-Whole.field-0-is))
    c.worded.ensures.steps
