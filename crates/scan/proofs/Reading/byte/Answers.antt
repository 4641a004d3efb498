-- What the message gives, and the cursor behind it.
use mathlib.Core.Path.{refl}
use Rattle.std.proofs.lemmas.Result.{err_from_is_err_and}
use Rattle.scan.proofs.Reading.byte.Goals as goal

pub returns-in_err-b-clause-reads : goal.returns-in_err-b-clause-reads
returns-in_err-b-clause-reads c = let p = err_from_is_err_and c.from_residual.result c.from_residual.ensures.1 in rw (p.1, p.2) (record { read = c.in_err-b.ensures _; same = (refl, (refl, refl)) })

pub returns-clause-reads : goal.returns-clause-reads
returns-clause-reads c = (record { read = c.in_ok-b.ensures _; same = (refl, (refl, refl)) })
