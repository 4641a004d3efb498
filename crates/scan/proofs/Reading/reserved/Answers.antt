-- The decision, on the loan that it writes.
use mathlib.Core.Path.{refl}
use Rattle.std.proofs.lemmas.Result.{err_from_is_err_and}
use Rattle.scan.proofs.Does.{does_reserved}
use Rattle.scan.proofs.Reading.reserved.Goals as goal

pub returns-in_err-span-clause-reads : goal.returns-in_err-span-clause-reads
returns-in_err-span-clause-reads c = let p = err_from_is_err_and c.from_residual.result c.from_residual.ensures.1 in rw (p.1, p.2) (record { read = does_reserved _ _ _ _ _ _ _ _ _ _ (c.in_err-span.ensures _ refl); same = (refl, (refl, refl)) })

pub returns-clause-reads : goal.returns-clause-reads
returns-clause-reads c = (record { read = does_reserved _ _ _ _ _ _ _ _ _ _ (c.in_ok-span.ensures _ refl); same = (refl, (refl, refl)) })
