-- Any message whose tree loans can hold: what its reading takes is no more than the tree needs, and it is within the limit.
pub mod Fares
pub mod Spends
pub mod Afford
pub mod Brief
-- Enough room is enough, and more changes nothing but 10.
pub mod Ample
pub mod Roomy
-- On any state: refusals have their places, bytes their counts, answers their names.
pub mod Stands
pub mod Counted
pub mod Decides
pub mod Answered
pub mod Ranges
-- Where a state holds together, a byte is refused by 12 exactly where what it looks up strays.
pub mod Together
pub mod Verdicts
pub mod Twins
pub mod Strays
pub mod Holding
-- Which refusal comes first.
pub mod Precedence
pub mod Appears
-- The round trip through the calls.
pub mod Trips
-- What stands behind a finished reading's bytes, and orders one after the other.
pub mod Behind
pub mod Turns
pub mod OnePiece
pub mod FedTurns
-- What each call is of.
pub mod Ties
-- Dates by their bits, and their milliseconds.
pub mod Dates
-- The demands, and wrong programs that each breaks.
pub mod Demands
pub mod Refuted
