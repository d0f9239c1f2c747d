pub mod Areas
pub mod Fields
pub mod Fits
pub mod Images
pub mod Names
pub mod Pages
pub mod Refusals
pub mod Regions
