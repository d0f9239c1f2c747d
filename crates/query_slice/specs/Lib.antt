pub mod Reaching
pub mod Slices
pub mod Merging
pub mod Classes
