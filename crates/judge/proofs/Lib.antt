pub mod Texts
pub mod Leasts
pub mod Parents
pub mod Passing
pub mod Ways
