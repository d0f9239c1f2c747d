pub mod Filing
pub mod Marking
