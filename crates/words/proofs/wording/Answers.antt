-- By the purpose.
use borrow.Author.Tests.{ne_eqb, lt-leb}
use Rattle.format.specs.Step.{worded}
use Rattle.resume.proofs.Moves.{as_is}
use Rattle.words.proofs.Bodies.{word-of-body}
use Rattle.words.proofs.wording.Goals as goal

pub returns-then-w-eq-OBJECT-clause-steps : goal.returns-then-w-eq-OBJECT-clause-steps
unfolding worded
returns-then-w-eq-OBJECT-clause-steps c = rw c.if-w-eq-OBJECT.true c.object_shaped.ensures.steps

pub returns-then-w-le-DICTIONARY-clause-steps : goal.returns-then-w-le-DICTIONARY-clause-steps
returns-then-w-le-DICTIONARY-clause-steps c =
    as_is (λ ts c' m. word-of-body ts c' m c.args.w c.args.n c.requires.word c.requires.other c.if-w-eq-OBJECT.false c.if-w-le-DICTIONARY.true)
    (rw c.body_for.ensures at c.body_sized.ensures.steps)

pub returns-clause-steps : goal.returns-clause-steps
unfolding worded
returns-clause-steps c = rw (ne_eqb _ _ c.requires.other, ne_eqb _ _ c.if-w-eq-OBJECT.false, lt-leb _ _ c.if-w-le-DICTIONARY.false) c.string_sized.ensures.steps
