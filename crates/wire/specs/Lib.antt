pub mod Put
pub mod U29
pub mod Word
pub mod Sign
pub mod Big
pub mod Date
pub mod Octets
