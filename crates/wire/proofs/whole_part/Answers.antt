-- By the field of the exponent.
use native.Mathlib.Omega.{arith}
use Rattle.wire.proofs.Dates as dates
use Rattle.wire.proofs.Shift.{with_bit}
use Rattle.wire.proofs.whole_part.Goals as goal

pub returns-then-e-lt1023 : goal.returns-then-e-lt1023
returns-then-e-lt1023 c = dates.below c.args.size c.requires.0 c.requires.1 (omega arith)

pub returns-then-e-le1075 : goal.returns-then-e-le1075
returns-then-e-le1075 c = rw (with_bit 52) (dates.middle c.args.size c.requires.0 c.requires.1 (omega arith)
    (omega arith))

pub returns-then-e-le1086 : goal.returns-then-e-le1086
returns-then-e-le1086 c = rw (with_bit 52) (dates.upper c.args.size c.requires.0
    c.requires.1 (omega arith) (omega arith))

pub returns : goal.returns
returns c = dates.held c.args.size c.requires.0 c.requires.1 (omega arith)
