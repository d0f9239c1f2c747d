pub mod Replays
pub mod Differences
