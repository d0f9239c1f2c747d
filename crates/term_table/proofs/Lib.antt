pub mod Keeping
pub mod Worth
