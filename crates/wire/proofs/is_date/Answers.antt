-- The size is below an infinity's.
use lib.Bits.{and_mask}
use Rattle.wire.proofs.Dates as dates
use Rattle.wire.proofs.is_date.Goals as goal

pub returns : goal.returns
returns c = rw (and_mask c.args.bits 63) (dates.date-is c.args.bits)
