-- Room for a text, which its row shows, its bytes, and its place in the strings.
use mathlib.Core.Path.{refl, sym}
use Rattle.format.specs.Reading as r
use Rattle.scan.proofs.Laws.{then, fails, chosen, alike, out-err}
use Rattle.scan.proofs.Reserves.{reserved-gave, row-placed}
use Rattle.scan.proofs.Sizes.{text-none, text-some}
use Rattle.parts.proofs.new_string.Goals as goal

pub returns-then-n-eq0-clause-reads : goal.returns-then-n-eq0-clause-reads
returns-then-n-eq0-clause-reads c = record { read = rw (c.default.ensures.0, c.default.ensures.1) (text-none _ _ _ _ _ c.if-n-eq0.true); same = (refl, (refl, refl)) }

pub returns-in_err-s-clause-reads : goal.returns-in_err-s-clause-reads
returns-in_err-s-clause-reads c = out-err c.from_residual.ensures (alike (sym (text-some _ _ _ _ _ c.if-n-eq0.false)) (fails _ _ c.in_err-s.ensures.reads))

pub returns-in_err-bodied-clause-reads : goal.returns-in_err-bodied-clause-reads
returns-in_err-bodied-clause-reads c = out-err c.from_residual-in_err-bodied.ensures (alike (sym (text-some _ _ _ _ _ c.if-n-eq0.false)) (then _ _ c.in_ok-s.ensures.reads (fails _ _ (fails _ _ c.in_err-bodied.ensures.reads))))

pub checked-requires : goal.checked-requires
checked-requires c = (row-placed _ _ _ _ _ _ _ _ _ c.in_ok-bodied.ensures.reads.read (reserved-gave _ _ _ _ _ _ _ c.in_ok-s.ensures.reads.read)).inside

pub returns-in_err-valid-clause-reads : goal.returns-in_err-valid-clause-reads
returns-in_err-valid-clause-reads c = out-err c.from_residual-in_err-valid.ensures (alike (sym (text-some _ _ _ _ _ c.if-n-eq0.false)) (then _ _ c.in_ok-s.ensures.reads (fails _ _ (then _ _ c.in_ok-bodied.ensures.reads (chosen (r.chars_of _) (row-placed _ _ _ _ _ _ _ _ _ c.in_ok-bodied.ensures.reads.read (reserved-gave _ _ _ _ _ _ _ c.in_ok-s.ensures.reads.read)).whole c.in_err-valid.ensures.reads)))))

pub returns-clause-reads : goal.returns-clause-reads
returns-clause-reads c = alike (sym (text-some _ _ _ _ _ c.if-n-eq0.false)) (then _ _ c.in_ok-s.ensures.reads (then _ _ (then _ _ c.in_ok-bodied.ensures.reads (chosen (r.chars_of _) (row-placed _ _ _ _ _ _ _ _ _ c.in_ok-bodied.ensures.reads.read (reserved-gave _ _ _ _ _ _ _ c.in_ok-s.ensures.reads.read)).whole c.in_ok-valid.ensures.reads)) c.text_end.ensures.reads))
