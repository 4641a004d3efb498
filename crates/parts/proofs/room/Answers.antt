-- Room where it is needed, which the row shows.
use mathlib.Core.Path.{refl, sym}
use Rattle.format.specs.Reading as r
use Rattle.scan.proofs.Laws.{then, fails, given, alike, out-err}
use Rattle.scan.proofs.Sizes.{room-none, room-some}
use Rattle.parts.proofs.room.Goals as goal

pub returns-then-n-eq0-clause-reads : goal.returns-then-n-eq0-clause-reads
returns-then-n-eq0-clause-reads c = record { read = rw (c.default.ensures.0, c.default.ensures.1) (room-none _ _ _ _ _ c.if-n-eq0.true); same = (refl, (refl, refl)) }

pub returns-in_err-s-clause-reads : goal.returns-in_err-s-clause-reads
returns-in_err-s-clause-reads c = out-err c.from_residual.ensures (alike (sym (room-some _ _ _ _ _ c.if-n-eq0.false)) (fails _ _ c.in_err-s.ensures.reads))

pub returns-in_err-bodied-clause-reads : goal.returns-in_err-bodied-clause-reads
returns-in_err-bodied-clause-reads c = out-err c.from_residual-in_err-bodied.ensures (alike (sym (room-some _ _ _ _ _ c.if-n-eq0.false)) (then _ _ c.in_ok-s.ensures.reads (fails _ _ c.in_err-bodied.ensures.reads)))

pub returns-clause-reads : goal.returns-clause-reads
returns-clause-reads c = alike (sym (room-some _ _ _ _ _ c.if-n-eq0.false)) (then _ _ c.in_ok-s.ensures.reads (then _ _ c.in_ok-bodied.ensures.reads given))
