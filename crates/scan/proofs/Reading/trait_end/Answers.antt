-- The decision, on the loan that it writes.
use mathlib.Core.Path.{refl}
use Rattle.std.proofs.lemmas.Result.{err_from_is_err_and}
use Rattle.scan.proofs.Does.{does_trait_end}
use Rattle.scan.proofs.Laws.{traits-long}
use Rattle.scan.proofs.Reading.trait_end.Goals as goal

pub returns-in_err-self-clause-reads : goal.returns-in_err-self-clause-reads
returns-in_err-self-clause-reads c = let p = err_from_is_err_and c.from_residual.result c.from_residual.ensures.1 in rw (p.1, p.2) (record { read = does_trait_end _ _ _ _ _ _ _ _ _ _ _ c.in_err-self.ensures; same = (refl, (refl, traits-long _ _ _ _ _ _ _ c.trait_end.auto.traits)) })

pub returns-clause-reads : goal.returns-clause-reads
returns-clause-reads c = (record { read = does_trait_end _ _ _ _ _ _ _ _ _ _ _ c.in_ok-self.ensures; same = (refl, (refl, traits-long _ _ _ _ _ _ _ c.trait_end.auto.traits)) })
