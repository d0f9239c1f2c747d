pub mod Copying
pub mod Cutting
pub mod Increasing
pub mod Leaving
pub mod Room
pub mod Without
