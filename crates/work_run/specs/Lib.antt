pub mod Turns
pub mod Entering
pub mod Seen
pub mod Causes
pub mod Runs
