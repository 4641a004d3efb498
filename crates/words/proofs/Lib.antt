pub mod Bodies
pub mod Rooms
pub mod Sizes
pub mod Uses
