pub mod Apart
pub mod Branching
pub mod Parting
pub mod Sampling
pub mod Sharing
pub mod SidesOfValues
pub mod Valuing
pub mod Following
