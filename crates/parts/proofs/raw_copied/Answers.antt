-- The copy as a whole, and the count once.
use mathlib.Core.Path.{refl}
use Rattle.scan.proofs.Laws.{then, fails, alike, out-err}
use Rattle.scan.proofs.Ends.{some}
use Rattle.scan.proofs.Copies.{reads-empty, reads-raw}
use Rattle.parts.proofs.raw_copied.Goals as goal

pub returns-then-s-eq0-clause-reads : goal.returns-then-s-eq0-clause-reads
returns-then-s-eq0-clause-reads c = record { read = reads-empty _ _ _ _ _ c.if-s-eq0.true; same = (refl, (refl, refl)) }

pub returns-in_err-copied-clause-reads : goal.returns-in_err-copied-clause-reads
returns-in_err-copied-clause-reads c = out-err c.from_residual.ensures (alike (reads-raw _ _ _ _ _ _ _ _ _ c.if-s-eq0.false (c.requires.0 (some c.args.s.size c.if-s-eq0.false)).0 (c.requires.0 (some c.args.s.size c.if-s-eq0.false)).1 _ _ c.requires.1) (fails _ _ c.in_err-copied.ensures.reads))

pub returns-clause-reads : goal.returns-clause-reads
returns-clause-reads c = alike (reads-raw _ _ _ _ _ _ _ _ _ c.if-s-eq0.false (c.requires.0 (some c.args.s.size c.if-s-eq0.false)).0 (c.requires.0 (some c.args.s.size c.if-s-eq0.false)).1 _ _ c.requires.1) (then _ _ c.in_ok-copied.ensures.reads c.grown.ensures.reads)
