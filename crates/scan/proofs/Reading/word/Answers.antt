-- What the message gives, and the cursor behind it.
use mathlib.Core.Path.{refl}
use Rattle.std.proofs.lemmas.Result.{err_from_is_err_and}
use Rattle.scan.proofs.Reading.word.Goals as goal

pub returns-in_err-n-clause-reads : goal.returns-in_err-n-clause-reads
returns-in_err-n-clause-reads c = let p = err_from_is_err_and c.from_residual.result c.from_residual.ensures.1 in rw (p.1, p.2) (record { read = c.in_err-n.ensures.0 _; same = (refl, (refl, refl)) }, tt)

pub returns-clause-reads : goal.returns-clause-reads
returns-clause-reads c = (record { read = c.in_ok-n.ensures.0 _; same = (refl, (refl, refl)) }, c.in_ok-n.ensures.1)
