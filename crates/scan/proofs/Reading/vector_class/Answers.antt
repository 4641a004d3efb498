-- The decision, on the loan that it writes.
use mathlib.Core.Path.{refl}
use Rattle.std.proofs.lemmas.Result.{err_from_is_err_and}
use Rattle.scan.proofs.Does.{does_vector}
use Rattle.scan.proofs.Laws.{rows-long}
use Rattle.scan.proofs.Reading.vector_class.Goals as goal

pub returns-in_err-self-clause-reads : goal.returns-in_err-self-clause-reads
returns-in_err-self-clause-reads c = let p = err_from_is_err_and c.from_residual.result c.from_residual.ensures.1 in rw (p.1, p.2) (record { read = does_vector _ _ _ _ _ _ _ _ _ _ _ _ _ c.in_err-self.ensures; same = (refl, (refl, rows-long _ _ _ _ _ _ _ c.vector_class.auto.rows)) })

pub returns-clause-reads : goal.returns-clause-reads
returns-clause-reads c = (record { read = does_vector _ _ _ _ _ _ _ _ _ _ _ _ _ c.in_ok-self.ensures; same = (refl, (refl, rows-long _ _ _ _ _ _ _ c.vector_class.auto.rows)) })
