pub mod Answers
pub mod Caches
pub mod Fingerprints
