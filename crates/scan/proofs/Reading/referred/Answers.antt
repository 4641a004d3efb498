-- The object that is named, and the reference to it.
use mathlib.Core.Path.{refl, sym, ap, ◌∙◌}
use Rattle.std.proofs.lemmas.Result.{err_from_is_err_and}
use Rattle.wire.specs.Put.{with1}
use Rattle.decide.specs.Outcomes.{answer_in, leaving}
use Rattle.decide.proofs.References.{unnamed, named-object}
use Rattle.scan.proofs.Does.{does_referred}
use Rattle.scan.proofs.Laws.{rows-long}
use Rattle.scan.proofs.Reading.referred.Goals as goal

pub returns-in_err-object-clause-reads : goal.returns-in_err-object-clause-reads
returns-in_err-object-clause-reads c = let p = err_from_is_err_and c.from_residual.result c.from_residual.ensures.1 in rw (p.1, p.2)
    (record { read = does_referred _ _ _ _ _ _ _ _ _ _ _ _ (ap (leaving c.args.self.now.rows.now) (sym (unnamed c.args.row c.args.i _ _ _ (sym c.in_err-object.ensures)))); same = (refl, (refl, refl)) })

pub returns-in_err-self-clause-reads : goal.returns-in_err-self-clause-reads
returns-in_err-self-clause-reads c = let p = err_from_is_err_and c.from_residual-in_err-self.result c.from_residual-in_err-self.ensures.1 in rw (p.1, p.2) (record { read = does_referred _ _ _ _ _ _ _ _ _ _ _ _ (c.in_err-self.ensures ∙ ap (leaving c.args.self.now.rows.now) (sym (named-object c.args.row c.args.i _ _ _ (sym c.in_ok-object.ensures)))); same = (refl, (refl, rows-long _ _ _ _ _ _ _ c.referred.auto.rows)) })

pub returns-clause-reads : goal.returns-clause-reads
returns-clause-reads c = (record { read = does_referred _ _ _ _ _ _ _ _ _ _ _ _ (c.in_ok-self.ensures ∙ ap (leaving c.args.self.now.rows.now) (sym (named-object c.args.row c.args.i _ _ _ (sym c.in_ok-object.ensures)))); same = (refl, (refl, rows-long _ _ _ _ _ _ _ c.referred.auto.rows)) })
