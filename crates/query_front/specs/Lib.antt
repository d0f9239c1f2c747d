pub mod Asks
pub mod Parts
pub mod Spents
