pub mod Kinds
pub mod Lent
pub mod Memory
