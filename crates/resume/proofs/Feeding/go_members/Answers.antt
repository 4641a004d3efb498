-- No member left, dynamic ones, or the next one with its name.
use Rattle.std.proofs.Common.{◌≡◌, ◌-◌, ◌∷◌, refl, sym, ◌∙◌, rules}
use Rattle.format.specs.Step.{wait, at_marker, frame}
use Rattle.format.specs.Numbers.{work_of, use_work, no_trait}
use Rattle.resume.proofs.Moves.{goes_as, as_is, waits, waiting, refuses, refusing, stopping, going}
use Rattle.resume.proofs.Tasks.{no-members, dynamic-members, more-members, astray-members}
use Rattle.resume.proofs.Feeding.go_members.Goals as goal

pub returns-then-f-eq0-2-clause-goes : goal.returns-then-f-eq0-2-clause-goes
returns-then-f-eq0-2-clause-goes c = goes_as (λ ts c' m. no-members _ _ _ _ _ _ _ _ _ _ c.requires.members c.if-f-eq0.true c.if-f-eq0-2.true) c.finish.ensures.goes

pub returns-then-f-eq0-clause-goes : goal.returns-then-f-eq0-clause-goes
unfolding work_of use_work
returns-then-f-eq0-clause-goes c =
    let e : c.default.result ≡ no_trait = search rules in
    waiting (as_is (λ ts c' m. dynamic-members _ _ _ _ _ _ _ _ _ _ c.requires.members c.if-f-eq0.true c.if-f-eq0-2.false) (waits (rw (c.string_work.ensures, e))))

pub returns-then-not-fits-clause-goes : goal.returns-then-not-fits-clause-goes
returns-then-not-fits-clause-goes c =
    rw c.lost.ensures
    (refusing refl (refuses (astray-members _ _ _ _ _ _ _ _ _ _ c.requires.members c.if-f-eq0.false (sym c.fits.ensures ∙ c.if-not-fits.true))))

pub returns-in_err-key-clause-goes : goal.returns-in_err-key-clause-goes
returns-in_err-key-clause-goes c =
    let f = c.args.f in
    goes_as (λ ts c' m. more-members _ _ _ _ _ _ _ _ _ _ c.requires.members c.if-f-eq0.false)
    (stopping (λ ts key. wait (at_marker key) (frame f.task f.row (f.left - 1) f.done f.first f.dynamic ∷ ts)) c.in_err-key.ensures c.from_residual.ensures)

pub returns-clause-goes : goal.returns-clause-goes
returns-clause-goes c =
    let f = c.args.f in
    goes_as (λ ts c' m. more-members _ _ _ _ _ _ _ _ _ _ c.requires.members c.if-f-eq0.false)
    (going (λ ts key. wait (at_marker key) (frame f.task f.row (f.left - 1) f.done f.first f.dynamic ∷ ts)) c.in_ok-key.ensures c.open_next.ensures.goes)
