pub mod Stopping
pub mod Puts
pub mod Steps
