pub mod Frames
pub mod Purposes
pub mod Modes
pub mod Lengths
pub mod Parts
