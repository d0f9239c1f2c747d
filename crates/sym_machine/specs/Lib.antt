pub mod Steps
pub mod Stops
pub mod Fetching
pub mod Loading
pub mod Storing
pub mod Calls
pub mod Advancing
pub mod Shifts
