pub mod Trails
pub mod Places
pub mod Passes
pub mod Spots
pub mod Searches
pub mod Occurrences
