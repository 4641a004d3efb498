-- The decision, with the loan that it left.
use Rattle.std.proofs.Common.{rules}
use Rattle.rows.specs.Lent.{lent_of}
use Rattle.resume.proofs.Decided.{wrote_out}
use Rattle.resume.proofs.Feeding.text_end.Goals as goal

pub returns-clause-decided : goal.returns-clause-decided
unfolding lent_of
returns-clause-decided c = search (rules, wrote_out)
