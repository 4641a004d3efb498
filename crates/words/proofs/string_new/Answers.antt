-- Room for the text, which is next.
use Rattle.std.proofs.Common.{◌≡◌, ◌-◌, ◌<◌, ℕ, ◌∙◌, arith}
use Rattle.format.specs.Step.{on, wait, at_text, table_text}
use Rattle.states.proofs.Purposes.{use_of}
use Rattle.resume.specs.Steps.{reserved_by}
use Rattle.resume.proofs.Moves.{as_is, waits, stopped_by, after_it}
use Rattle.words.proofs.Uses.{use_new, use_work-of}
use Rattle.words.proofs.string_new.Goals as goal

some : (n : ℕ) → 0 < n → n ≡ 0 → ⊥
some n h e = omega arith

pub returns-in_err-p-clause-steps : goal.returns-in_err-p-clause-steps
returns-in_err-p-clause-steps c =
    as_is (λ ts c' m. use_new c.args.w c.requires.used ts c' m c.args.n (some c.args.n c.requires.some))
    (stopped_by (λ ts s c' m. on (reserved_by c.args.w s m c') m (λ y. wait (at_text (table_text (use_of c.args.w)) s (c.args.n - 1) 0) ts)) c.in_err-p.ensures.decided c.from_residual.ensures)

pub returns-in_err-reserved_for-clause-steps : goal.returns-in_err-reserved_for-clause-steps
returns-in_err-reserved_for-clause-steps c =
    as_is (λ ts c' m. use_new c.args.w c.requires.used ts c' m c.args.n (some c.args.n c.requires.some))
    (after_it (λ ts s c' m. on (reserved_by c.args.w s m c') m (λ y. wait (at_text (table_text (use_of c.args.w)) s (c.args.n - 1) 0) ts)) c.in_ok-p.ensures.decided
    (stopped_by (λ ts y. wait (at_text (table_text (use_of c.args.w)) c.in_ok-p.p (c.args.n - 1) 0) ts) c.in_err-reserved_for.ensures.decided c.from_residual-in_err-reserved_for.ensures))

pub returns-clause-steps : goal.returns-clause-steps
returns-clause-steps c =
    as_is (λ ts c' m. use_new c.args.w c.requires.used ts c' m c.args.n (some c.args.n c.requires.some))
    (after_it (λ ts s c' m. on (reserved_by c.args.w s m c') m (λ y. wait (at_text (table_text (use_of c.args.w)) s (c.args.n - 1) 0) ts)) c.in_ok-p.ensures.decided
    (after_it (λ ts y. wait (at_text (table_text (use_of c.args.w)) c.in_ok-p.p (c.args.n - 1) 0) ts) c.in_ok-reserved_for.ensures.decided (waits (c.use_work.ensures ∙ use_work-of c.args.w c.requires.used _ _ _))))
