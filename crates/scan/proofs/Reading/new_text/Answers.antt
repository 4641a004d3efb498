-- Room for a text, its bytes, and its place in the strings.
use mathlib.Core.Path.{refl, sym}
use Rattle.std.proofs.lemmas.Result.{err_from_is_err_and}
use Rattle.format.specs.Reading.{chars_of, plain}
use Rattle.scan.proofs.Laws.{then, fails, chosen, alike}
use Rattle.scan.proofs.Reserves.{reserved-gave}
use Rattle.scan.proofs.Sizes.{text-none, text-some}
use Rattle.scan.proofs.Reading.new_text.Goals as goal

pub returns-then-size-eq0-clause-reads : goal.returns-then-size-eq0-clause-reads
returns-then-size-eq0-clause-reads c = record { read = rw (c.default.ensures.0, c.default.ensures.1) (text-none _ _ _ _ _ c.if-size-eq0.true); same = (refl, (refl, refl)) }

pub returns-in_err-s-clause-reads : goal.returns-in_err-s-clause-reads
returns-in_err-s-clause-reads c = let p = err_from_is_err_and c.from_residual.result c.from_residual.ensures.1 in rw (p.1, p.2)
    (alike (sym (text-some _ _ _ plain _ c.if-size-eq0.false)) (fails _ _ c.in_err-s.ensures.reads))

pub checked-requires : goal.checked-requires
checked-requires c = (reserved-gave _ _ _ _ _ _ _ c.in_ok-s.ensures.reads.read).inside

pub returns-in_err-valid-clause-reads : goal.returns-in_err-valid-clause-reads
returns-in_err-valid-clause-reads c = let p = err_from_is_err_and c.from_residual-in_err-valid.result c.from_residual-in_err-valid.ensures.1 in rw (p.1, p.2)
    (alike (sym (text-some _ _ _ plain _ c.if-size-eq0.false)) (then _ _ c.in_ok-s.ensures.reads
    (fails _ _ (chosen (chars_of _) (reserved-gave _ _ _ _ _ _ _ c.in_ok-s.ensures.reads.read).whole c.in_err-valid.ensures.reads))))

pub returns-clause-reads : goal.returns-clause-reads
returns-clause-reads c = alike (sym (text-some _ _ _ plain _ c.if-size-eq0.false)) (then _ _ c.in_ok-s.ensures.reads
    (then _ _ (chosen (chars_of _) (reserved-gave _ _ _ _ _ _ _ c.in_ok-s.ensures.reads.read).whole c.in_ok-valid.ensures.reads) c.text_end.ensures.reads))
