pub mod Grammar
pub mod States
pub mod Tables
pub mod Ladder
