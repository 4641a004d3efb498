-- Laws that the others share.
pub mod Ground
-- More depth changes nothing but 9.
pub mod Depth
-- A limit, or a loan that is full, is met for a reason.
pub mod Limits
-- Reading means the standard.
pub mod Rep
pub mod Unfolding
pub mod Tables
pub mod Changes
pub mod Stage
pub mod Texts
pub mod Naming
pub mod Loops
pub mod Ends
pub mod Plains
pub mod Holders
pub mod Values
pub mod Meaning
-- Every table that a reading finished passes 13 and 14.
pub mod Lands
pub mod RowTests
pub mod Stages
pub mod Posts
pub mod Spans
pub mod Heard
pub mod Children
pub mod Classes
pub mod Markers
pub mod ValueRows
pub mod Finished
-- Writing: a tree's pieces, what the writer emits of them, how a writing ends.
pub mod Parts
pub mod Emit
pub mod Writes
-- The standard: its own tables, its fuels, and that it reads back what is written.
pub mod Fuel
pub mod Words
pub mod Own
pub mod Back
pub mod Round
-- Tested rows: their tree can be written, and has all its levels.
pub mod Walks
-- Loans that can hold a tree unfolded: its bytes are below the limit, and its reading never ends for want of room.
pub mod Size
pub mod Holds
pub mod Enough
pub mod Taken
pub mod Finishes
-- What an accepted writing wrote, read again.
pub mod Trip
-- What accepted writings wrote, one after the other.
pub mod Orders
-- Loans that held a tree can hold it.
pub mod Exactly
