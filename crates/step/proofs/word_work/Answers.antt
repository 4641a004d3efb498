-- A body's, an object's or an integer's, or a use's.
use mathlib.Core.Path.{sym, ◌∙◌}
use Rattle.format.specs.Step.{at_word}
use Rattle.format.specs.Numbers.{no_work, work_of}
use Rattle.states.proofs.Purposes.{low_word, high_word}
use Rattle.step.proofs.Parts.{span_none}
use Rattle.step.proofs.word_work.Goals as goal

pub returns-then-w-le-DICTIONARY : goal.returns-then-w-le-DICTIONARY
returns-then-w-le-DICTIONARY c = c.row_work.ensures ∙ low_word c.args.w c.args.left c.args.part c.requires.0 c.if-w-le-DICTIONARY.true

pub returns : goal.returns
unfolding work_of
returns c =
    rw (span_none _ c.default.ensures) at c.use_work.ensures
    ∙ sym (high_word no_work c.args.w (λ x. work_of (at_word x c.args.left c.args.part)) c.if-w-le-DICTIONARY.false)
