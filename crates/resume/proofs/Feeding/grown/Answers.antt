-- The decision, with the loan that it left.
use Rattle.std.proofs.Common.{rules}
use Rattle.rows.specs.Lent.{lent_of}
use Rattle.resume.proofs.Decided.{wrote, grown_still}
use Rattle.resume.proofs.Feeding.grown.Goals as goal

pub returns-clause-decided : goal.returns-clause-decided
unfolding lent_of
returns-clause-decided c = search (rules, wrote)

pub returns-clause-still : goal.returns-clause-still
returns-clause-still c = grown_still _ _ _ _ _ _ _ _ c.in_ok-self.ensures
