-- The decision, on the loan that it writes.
use mathlib.Core.Path.{refl}
use Rattle.std.proofs.lemmas.Result.{err_from_is_err_and}
use Rattle.scan.proofs.Does.{does_named}
use Rattle.scan.proofs.Laws.{names-long}
use Rattle.scan.proofs.Reading.named.Goals as goal

pub returns-in_err-span-clause-reads : goal.returns-in_err-span-clause-reads
returns-in_err-span-clause-reads c = let p = err_from_is_err_and c.from_residual.result c.from_residual.ensures.1 in rw (p.1, p.2) (record { read = does_named _ _ _ _ _ _ _ _ _ _ _ c.in_err-span.ensures; same = (refl, (refl, names-long _ _ _ _ _ _ _ c.named.auto.names)) })

pub returns-clause-reads : goal.returns-clause-reads
returns-clause-reads c = (record { read = does_named _ _ _ _ _ _ _ _ _ _ _ c.in_ok-span.ensures; same = (refl, (refl, names-long _ _ _ _ _ _ _ c.named.auto.names)) })
