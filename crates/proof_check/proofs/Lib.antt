pub mod Assigning
pub mod Walks
pub mod Turns
pub mod Supersets
pub mod Opened
pub mod Chains
pub mod Keys
pub mod Filing
