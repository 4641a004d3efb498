pub mod Run
pub mod Pieces
