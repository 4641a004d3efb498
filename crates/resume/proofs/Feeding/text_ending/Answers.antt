-- An XML's text is judged; another enters the strings.
use Rattle.format.specs.Decide.{on_rows, closed}
use Rattle.format.specs.Step.{text_done, had, ends}
use Rattle.resume.proofs.Moves.{as_is, stopped_by, after_it}
use Rattle.resume.proofs.Uses.{use_had, use_text}
use Rattle.states.proofs.Purposes.{use_of}
use Rattle.resume.proofs.Feeding.text_ending.Goals as goal

pub returns-in_err-judged-clause-steps : goal.returns-in_err-judged-clause-steps
unfolding text_done
returns-in_err-judged-clause-steps c =
    rw c.if-w-eq-XML.true (stopped_by (λ ts y. ends ts (on_rows (closed c.args.w.row))) c.in_err-judged.ensures c.from_residual.ensures)

pub returns-then-w-eq-XML-clause-steps : goal.returns-then-w-eq-XML-clause-steps
unfolding text_done
returns-then-w-eq-XML-clause-steps c = rw c.if-w-eq-XML.true (after_it (λ ts y. ends ts (on_rows (closed c.args.w.row))) c.in_ok-judged.ensures c.close.ensures.steps)

pub returns-in_err-p-clause-steps : goal.returns-in_err-p-clause-steps
returns-in_err-p-clause-steps c =
    let u = c.requires.text c.if-w-eq-XML.false in
    as_is (λ ts c' m. use_text c.args.w u ts c' m c.args.w.span c.args.valid c.if-w-eq-XML.false)
    (stopped_by (λ ts p. had ts (use_of c.args.w) p) c.in_err-p.ensures.decided c.from_residual-in_err-p.ensures)

pub returns-clause-steps : goal.returns-clause-steps
returns-clause-steps c =
    let u = c.requires.text c.if-w-eq-XML.false in
    as_is (λ ts c' m. use_text c.args.w u ts c' m c.args.w.span c.args.valid c.if-w-eq-XML.false)
    (after_it (λ ts p. had ts (use_of c.args.w) p) c.in_ok-p.ensures.decided (as_is (λ ts c' m. use_had c.args.w u ts c' m c.in_ok-p.p) c.having.ensures.steps))
