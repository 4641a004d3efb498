-- Bytes into an output.
pub mod Streams
pub mod Bytes
pub mod Settling
-- Rows, and what is written of them.
pub mod Columns
pub mod Bounds
pub mod Lists
pub mod Nodes
pub mod Plains
-- The whole tree, and the whole writing.
pub mod Levels
pub mod Outcomes
