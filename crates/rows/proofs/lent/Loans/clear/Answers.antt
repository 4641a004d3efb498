-- Loan by loan.
use Rattle.std.proofs.Common.{rules}
use Rattle.rows.specs.Memory.{zeroed}
use Rattle.rows.specs.Lent.{lent_of}
use Rattle.rows.proofs.lent.Loans.clear.Goals as goal

pub returns : goal.returns
unfolding zeroed lent_of
returns c = search rules
