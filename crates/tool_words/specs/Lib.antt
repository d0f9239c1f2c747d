pub mod Region
pub mod Command
pub mod Orders
pub mod Limits
pub mod Job
pub mod Seen
pub mod Plain
