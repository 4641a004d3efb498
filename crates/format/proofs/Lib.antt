-- Laws that the others share.
pub mod Tests
pub mod Lists
pub mod Memories
pub mod Lengths
-- The worked examples, loans at the edge, and that each call has one outcome.
pub mod Examples
pub mod Millis
pub mod Edges
pub mod Unique
-- A reading never gives back bytes.
pub mod Shorter
-- Feeding is reading, however the message is cut.
pub mod Reasons
pub mod Placed
pub mod Feeding
pub mod Cuts
pub mod Used
pub mod Kept
pub mod Along
pub mod Stacked
pub mod States
pub mod Shows
pub mod Pieces
pub mod Wiped
-- A reading beside the standard's, step by step.
pub mod Alike
-- Tested rows: their tree can be written, and has all its levels.
pub mod Tested
pub mod Loans
pub mod Unfolded
pub mod Levels
pub mod Stores
-- What the numbers of a state mean; why a row is refused by 13 or 14, and which one is told.
pub mod Meant
pub mod Faults
pub mod Least
