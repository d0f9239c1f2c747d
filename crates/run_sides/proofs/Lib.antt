pub mod Branching
pub mod Pinning
pub mod Sides
