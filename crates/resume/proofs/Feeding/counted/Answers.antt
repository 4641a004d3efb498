-- The decision, with the loan that it left.
use Rattle.std.proofs.Common.{rules, arith}
use Rattle.rows.specs.Lent.{lent_of}
use Rattle.resume.proofs.Decided.{wrote, counted_still}
use Rattle.resume.proofs.Tasks.{counted-below}
use Rattle.resume.proofs.Feeding.counted.Goals as goal

pub returns-clause-decided : goal.returns-clause-decided
unfolding lent_of
returns-clause-decided c = search (rules, wrote)

pub returns-clause-fewer : goal.returns-clause-fewer
returns-clause-fewer c = λ e. omega (arith, counted-below _ _ _ _ _ _ _ c.in_ok-self.ensures)

pub returns-clause-still : goal.returns-clause-still
returns-clause-still c = counted_still _ _ _ _ _ _ _ c.in_ok-self.ensures
