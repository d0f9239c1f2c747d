pub mod Growth
pub mod Views
pub mod Hands
pub mod Turns
pub mod Passes
