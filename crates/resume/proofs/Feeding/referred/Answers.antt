-- The object that is named, and the reference to it.
use Rattle.std.proofs.Common.{rules}
use Rattle.std.proofs.lemmas.Result.{err_from_is_err_and}
use Rattle.rows.specs.Lent.{lent_of}
use Rattle.resume.proofs.Decided.{wrote, refers, refers_not}
use Rattle.resume.proofs.Feeding.referred.Goals as goal

pub returns-in_err-object-clause-decided : goal.returns-in_err-object-clause-decided
returns-in_err-object-clause-decided c =
    let p = err_from_is_err_and c.from_residual.result c.from_residual.ensures.1 in
    record {
      gave = rw (p.1, p.2) (refers_not c.args.row _ _ _ c.in_err-object.ensures.gave);
      refused = search rules;
      inside = c.in_err-object.ensures.inside;
    }

pub returns-in_err-self-clause-decided : goal.returns-in_err-self-clause-decided
unfolding lent_of
returns-in_err-self-clause-decided c = record { gave = rw (refers c.args.row _ _ _ _ c.in_ok-object.ensures.gave) (search rules); refused = search rules; inside = search rules }

pub returns-clause-decided : goal.returns-clause-decided
unfolding lent_of
returns-clause-decided c = record { gave = rw (refers c.args.row _ _ _ _ c.in_ok-object.ensures.gave) (search (rules, wrote)); refused = search rules; inside = search rules }
