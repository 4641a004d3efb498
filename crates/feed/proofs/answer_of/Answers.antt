-- By the status, and whether the state has ended.
use mathlib.Core.Path.{sym, ◌∙◌}
use borrow.Author.Tests.{eq-eqb}
use Rattle.format.specs.Numbers.{state_of}
use Rattle.feed.proofs.Calls.{finished-answer, refused-answer, lost-answer}
use Rattle.feed.proofs.answer_of.Goals as goal

pub returns-then-h-eq-WAITING : goal.returns-then-h-eq-WAITING
unfolding state_of
returns-then-h-eq-WAITING c = λ F m. rw (eq-eqb _ _ c.if-h-eq-WAITING.true)

pub returns-then-not-has_ended : goal.returns-then-not-has_ended
returns-then-not-has_ended c = λ F m. lost-answer _ F m _ c.if-h-eq-WAITING.false (sym c.has_ended.ensures ∙ c.if-not-has_ended.true)

pub returns-then-h-eq-FINISHED : goal.returns-then-h-eq-FINISHED
returns-then-h-eq-FINISHED c = λ F m. finished-answer _ F m _ c.if-h-eq-FINISHED.true (sym c.has_ended.ensures ∙ c.if-not-has_ended.false)

pub returns : goal.returns
returns c = λ F m. refused-answer _ F m _ c.if-h-eq-WAITING.false c.if-h-eq-FINISHED.false (sym
    c.has_ended.ensures ∙ c.if-not-has_ended.false)
