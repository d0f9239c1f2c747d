pub mod Walks
pub mod Counted
pub mod Multiplying
pub mod Reading
