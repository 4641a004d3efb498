-- No bytes need no room; else room is reserved, and the row shows it.
use Rattle.std.proofs.Common.{◌≡◌, sym, rules}
use Rattle.rows.specs.Memory.{no_span}
use Rattle.format.specs.Decide.{on_rows, bodied}
use Rattle.format.specs.Step.{on}
use Rattle.resume.proofs.Moves.{gives_as, gives, gives_not, gives_after, untouched}
use Rattle.words.proofs.Rooms.{no_room, some-room}
use Rattle.words.proofs.roomy.Goals as goal

pub returns-then-n-eq0-clause-rooms : goal.returns-then-n-eq0-clause-rooms
returns-then-n-eq0-clause-rooms c =
    let e : c.default.result ≡ no_span = search rules in
    record { gave = λ k. rw e (sym (no_room _ _ _ _ k c.if-n-eq0.true)); inside = untouched c.args.f.now }

pub returns-in_err-p-clause-rooms : goal.returns-in_err-p-clause-rooms
returns-in_err-p-clause-rooms c =
    gives_as (λ c' m k. some-room _ _ _ _ _ c.if-n-eq0.false)
    (gives_not (λ k s c' m. on (on_rows (bodied c.args.row s) m c') m (λ x. k s)) c.in_err-p.ensures.decided c.from_residual.ensures)

pub returns-in_err-bodied-clause-rooms : goal.returns-in_err-bodied-clause-rooms
returns-in_err-bodied-clause-rooms c =
    gives_as (λ c' m k. some-room _ _ _ _ _ c.if-n-eq0.false)
    (gives_after (λ k s c' m. on (on_rows (bodied c.args.row s) m c') m (λ x. k s)) c.in_ok-p.ensures.decided
    (gives_not (λ k x. k c.in_ok-p.p) c.in_err-bodied.ensures.decided c.from_residual-in_err-bodied.ensures))

pub returns-clause-rooms : goal.returns-clause-rooms
returns-clause-rooms c =
    gives_as (λ c' m k. some-room _ _ _ _ _ c.if-n-eq0.false)
    (gives_after (λ k s c' m. on (on_rows (bodied c.args.row s) m c') m (λ x. k s)) c.in_ok-p.ensures.decided (gives c.in_ok-bodied.ensures.decided))
