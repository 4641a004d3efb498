pub mod Outcomes
pub mod Spared
