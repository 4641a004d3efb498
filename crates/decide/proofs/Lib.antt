pub mod Markers
pub mod References
pub mod Refusals
pub mod Room
pub mod Rows
pub mod Stores
pub mod Widths
