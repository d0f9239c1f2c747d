pub mod Copies
pub mod Learning
pub mod Leaving
pub mod Values
pub mod Places
