-- A body that is empty, copied or cut off.
use mathlib.Core.Path.{refl}
use Rattle.scan.proofs.Ends.{some}
use Rattle.scan.proofs.Copies.{reads-empty, reads-copied, reads-cut}
use Rattle.scan.proofs.Reading.copied.Goals as goal

pub returns-then-s-eq0-clause-reads : goal.returns-then-s-eq0-clause-reads
returns-then-s-eq0-clause-reads c = (record { read = reads-empty _ _ _ _ _ c.if-s-eq0.true; same = (refl, (refl, refl)) })

pub returns-then-not-here-clause-reads : goal.returns-then-not-here-clause-reads
returns-then-not-here-clause-reads c = let w = c.requires (some c.args.s.size c.if-s-eq0.false) in
    (record { read = reads-cut _ _ _ _ _ _ _ _ _ c.if-s-eq0.false w.0 w.1 c.here.ensures c.if-not-here.true c.short.ensures; same = (refl, (refl, refl)) })

pub returns-clause-reads : goal.returns-clause-reads
returns-clause-reads c = let w = c.requires (some c.args.s.size c.if-s-eq0.false) in
    (record { read = rw (c.copy.ensures.0, c.copy.ensures.1) (reads-copied _ _ _ _ _ _ _ _ _ c.if-s-eq0.false w.0 w.1 c.here.ensures c.if-not-here.false refl refl); same = c.copy.ensures.2 })
