-- Length by length.
use Rattle.std.proofs.Common.{rules}
use Rattle.rows.specs.Lent.{lent_of}
use Rattle.rows.proofs.lent.Loans.lent.Goals as goal

pub returns : goal.returns
unfolding lent_of
returns c = search rules
