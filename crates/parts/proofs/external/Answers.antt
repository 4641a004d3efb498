-- A class, and the refusal of what is externalizable.
use Rattle.parts.specs.Heads.{external_trait}
use Rattle.scan.proofs.Laws.{then, fails, out-err}
use Rattle.scan.proofs.Does.{does_refuse}
use mathlib.Core.Path.{refl}
use Rattle.parts.proofs.external.Goals as goal

pub returns-in_err-text-clause-reads : goal.returns-in_err-text-clause-reads
unfolding external_trait
returns-in_err-text-clause-reads c = out-err c.from_residual.ensures (fails _ _ c.in_err-text.ensures.reads)

pub returns-clause-reads : goal.returns-clause-reads
unfolding external_trait
returns-clause-reads c = then _ _ c.in_ok-text.ensures.reads (record { read = does_refuse _ _ _ _ _ _ c.refuse.ensures; same = (refl, (refl, refl)) })
