pub mod Acts
pub mod Flags
pub mod Markers
pub mod Numbers
pub mod Parts
pub mod Raws
pub mod Texts
