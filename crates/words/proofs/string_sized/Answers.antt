-- A text that was read before, an empty one, or a new one.
use Rattle.std.proofs.Common.{◌≡◌, sym, ◌∙◌, rules}
use Rattle.rows.specs.Memory.{no_span}
use Rattle.format.specs.Step.{had, string_sized}
use Rattle.states.proofs.Purposes.{use_of}
use Rattle.resume.proofs.Moves.{as_is, stopped_by, after_it}
use Rattle.resume.proofs.Uses.{use_had}
use Rattle.words.proofs.Uses.{use_old}
use Rattle.words.proofs.string_sized.Goals as goal

pub returns-in_err-p-in-Old-clause-steps : goal.returns-in_err-p-in-Old-clause-steps
returns-in_err-p-in-Old-clause-steps c =
    rw (sym c.size_of.ensures ∙ c.in-Old.is)
    (as_is (λ ts c' m. use_old c.args.w c.requires.used ts c' m c.in-Old.i) (stopped_by (λ ts s. had ts (use_of c.args.w) s) c.in_err-p-in-Old.ensures c.from_residual.ensures))

pub returns-in_ok-p-in-Old-clause-steps : goal.returns-in_ok-p-in-Old-clause-steps
returns-in_ok-p-in-Old-clause-steps c =
    rw (sym c.size_of.ensures ∙ c.in-Old.is)
    (as_is (λ ts c' m. use_old c.args.w c.requires.used ts c' m c.in-Old.i)
    (after_it (λ ts s. had ts (use_of c.args.w) s) c.in_ok-p-in-Old.ensures (as_is (λ ts c' m. use_had c.args.w c.requires.used ts c' m c.in_ok-p-in-Old.p) c.had.ensures.steps)))

pub returns-in-New-eq0-clause-steps : goal.returns-in-New-eq0-clause-steps
unfolding string_sized
returns-in-New-eq0-clause-steps c =
    let e : c.default.result ≡ no_span = search rules in
    rw (sym c.size_of.ensures ∙ c.in-New-eq0.is, c.in-New-eq0.field-0-test) (rw e at c.had-in-New-eq0.ensures.steps)
