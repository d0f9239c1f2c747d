pub mod Growths
pub mod Seen
pub mod Seats
pub mod Keeps
pub mod Joining
pub mod Ends
