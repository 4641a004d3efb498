-- By what the word says.
use Rattle.std.proofs.Common.{◌≡◌, sym, ◌∙◌, rules}
use Rattle.format.specs.Decide.{looking, on_rows, old_trait, object_class}
use Rattle.format.specs.Step.{object_shaped, on, members, wait, at_string, for_external, for_class}
use Rattle.format.specs.Numbers.{work_of, use_work, no_trait}
use Rattle.resume.proofs.Moves.{stopped_by, after_it, waits}
use Rattle.words.proofs.object_shaped.Goals as goal

pub returns-in-Object-clause-steps : goal.returns-in-Object-clause-steps
unfolding object_shaped
returns-in-Object-clause-steps c = rw (sym c.shape_of.ensures ∙ c.in-Object.is) c.refer.ensures.steps

pub returns-in_err-entered-in-Known-clause-steps : goal.returns-in_err-entered-in-Known-clause-steps
unfolding object_shaped
returns-in_err-entered-in-Known-clause-steps c =
    rw (sym c.shape_of.ensures ∙ c.in-Known.is)
    (stopped_by (λ ts y c' m. on (looking (λ m. old_trait c.in-Known.i m.traits) m c') m (λ t c' m. on (on_rows (object_class c.args.row t) m c') m (λ y. members ts c.args.row t)))
    c.in_err-entered-in-Known.ensures.decided c.from_residual.ensures)

pub returns-in_ok-entered-in-Known-clause-steps : goal.returns-in_ok-entered-in-Known-clause-steps
unfolding object_shaped
returns-in_ok-entered-in-Known-clause-steps c =
    rw (sym c.shape_of.ensures ∙ c.in-Known.is)
    (after_it (λ ts y c' m. on (looking (λ m. old_trait c.in-Known.i m.traits) m c') m (λ t c' m. on (on_rows (object_class c.args.row t) m c') m (λ y. members ts c.args.row t)))
    c.in_ok-entered-in-Known.ensures.decided c.object_known.ensures.steps)

pub returns-in_err-entered-in-External-clause-steps : goal.returns-in_err-entered-in-External-clause-steps
unfolding object_shaped
returns-in_err-entered-in-External-clause-steps c = rw (sym c.shape_of.ensures ∙ c.in-External.is) (stopped_by (λ ts y. wait (at_string for_external) ts) c.in_err-entered-in-External.ensures.decided c.from_residual-in_err-entered-in-External.ensures)

pub returns-in_ok-entered-in-External-clause-steps : goal.returns-in_ok-entered-in-External-clause-steps
unfolding object_shaped work_of use_work
returns-in_ok-entered-in-External-clause-steps c =
    let e : c.default.result ≡ no_trait = search rules in
    rw (sym c.shape_of.ensures ∙ c.in-External.is) (after_it (λ ts y. wait (at_string for_external) ts) c.in_ok-entered-in-External.ensures.decided (waits (rw (c.string_work-external.ensures, e))))

pub returns-in_err-entered-in-Inline-clause-steps : goal.returns-in_err-entered-in-Inline-clause-steps
unfolding object_shaped
returns-in_err-entered-in-Inline-clause-steps c = rw (sym c.shape_of.ensures ∙ c.in-Inline.is) (stopped_by (λ ts y. wait (at_string (for_class c.args.row c.in-Inline.n c.in-Inline.dynamic)) ts) c.in_err-entered-in-Inline.ensures.decided c.from_residual-in_err-entered-in-Inline.ensures)

pub returns-in_ok-entered-in-Inline-clause-steps : goal.returns-in_ok-entered-in-Inline-clause-steps
unfolding object_shaped work_of use_work
returns-in_ok-entered-in-Inline-clause-steps c =
    rw (sym c.shape_of.ensures ∙ c.in-Inline.is)
    (after_it (λ ts y. wait (at_string (for_class c.args.row c.in-Inline.n c.in-Inline.dynamic)) ts) c.in_ok-entered-in-Inline.ensures.decided (waits (rw (c.string_work-class.ensures, c.of_dynamic.ensures))))
