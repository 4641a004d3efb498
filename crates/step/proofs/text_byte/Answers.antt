-- The byte in its place, and the text test one byte further.
use mathlib.Core.Path.{◌∙◌}
use Rattle.resume.proofs.Moves.{as_is, stopped_by, after_it, waits}
use Rattle.states.proofs.Purposes.{text_of}
use Rattle.utf8.specs.States.{step_of}
use Rattle.step.proofs.Texts.{after_text, text-work-of, text-stored, text-last, text-more}
use Rattle.step.proofs.text_byte.Goals as goal

pub returns-in_err-stored-clause-steps : goal.returns-in_err-stored-clause-steps
returns-in_err-stored-clause-steps c =
    as_is (text-stored c.args.w c.requires.text c.args.b)
    (stopped_by (λ ts. after_text ts (text_of c.args.w) c.args.w.span c.args.w.left (step_of c.args.w.part c.args.b)) c.in_err-stored.ensures.decided c.from_residual.ensures)

pub returns-then-w-eq0-clause-steps : goal.returns-then-w-eq0-clause-steps
returns-then-w-eq0-clause-steps c =
    as_is (text-stored c.args.w c.requires.text c.args.b)
    (after_it (λ ts. after_text ts (text_of c.args.w) c.args.w.span c.args.w.left (step_of c.args.w.part c.args.b)) c.in_ok-stored.ensures.decided
    (as_is (text-last c.args.w c.requires.text _ c.if-w-eq0.true) (rw c.step-part.ensures at c.text_done.ensures.steps)))

pub text_work-requires : goal.text_work-requires
text_work-requires c = c.requires.text

pub returns-clause-steps : goal.returns-clause-steps
returns-clause-steps c =
    as_is (text-stored c.args.w c.requires.text c.args.b)
    (after_it (λ ts. after_text ts (text_of c.args.w) c.args.w.span c.args.w.left (step_of c.args.w.part c.args.b)) c.in_ok-stored.ensures.decided
    (as_is (text-more c.args.w c.requires.text _ c.if-w-eq0.false)
    (waits (c.text_work.ensures ∙ text-work-of c.args.w c.requires.text _ _ ∙ rw c.step-part.ensures))))
