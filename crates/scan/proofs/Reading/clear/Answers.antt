-- Loan by loan.
use Rattle.std.proofs.Common.{rules}
use Rattle.rows.specs.Memory.{zeroed}
use Rattle.rows.specs.Lent.{lent_of}
use Rattle.scan.proofs.Reading.clear.Goals as goal

pub returns-clause-zero : goal.returns-clause-zero
unfolding zeroed lent_of
returns-clause-zero c = search rules
