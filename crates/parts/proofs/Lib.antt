pub mod Flags
pub mod Names
pub mod Shapes
