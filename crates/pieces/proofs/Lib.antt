pub mod Bytes
pub mod Costs
pub mod Drives
pub mod Fills
pub mod Going
pub mod Steps
