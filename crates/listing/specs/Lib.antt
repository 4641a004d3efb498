pub mod Words
pub mod Hex
