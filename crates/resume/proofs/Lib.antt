pub mod Amounts
pub mod Decided
pub mod Moves
pub mod Popped
pub mod Tasks
pub mod Turns
pub mod Uses
