-- The decision, on the loan that it writes.
use native.Mathlib.Omega.{arith}
use mathlib.Core.Path.{refl}
use Rattle.std.proofs.lemmas.Result.{err_from_is_err_and}
use Rattle.scan.proofs.Bounds.{rows_above}
use Rattle.scan.proofs.Does.{does_counted}
use Rattle.scan.proofs.Laws.{rows-long}
use Rattle.scan.proofs.Reading.counted.Goals as goal

pub returns-in_err-self-clause-reads : goal.returns-in_err-self-clause-reads
returns-in_err-self-clause-reads c = let p = err_from_is_err_and c.from_residual.result c.from_residual.ensures.1 in rw (p.1, p.2)
    (record { read = does_counted _ _ _ _ _ _ _ _ _ _ _ _ _ c.in_err-self.ensures; same = (refl, (refl, rows-long _ _ _ _ _ _ _ c.counted.auto.rows)) }, tt)

pub returns-clause-reads : goal.returns-clause-reads
returns-clause-reads c = (
  record { read = does_counted _ _ _ _ _ _ _ _ _ _ _ _ _ c.in_ok-self.ensures; same = (refl, (refl, rows-long _ _ _ _ _ _ _ c.counted.auto.rows)) },
  omega (arith, rows_above _ _ _ _ _ _ _ _ c.in_ok-self.ensures refl),
)
