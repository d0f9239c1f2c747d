pub mod Joining
pub mod Leaves
pub mod Ways
pub mod Counts
pub mod Naming
