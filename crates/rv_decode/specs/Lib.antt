pub mod Fields
pub mod Ops
pub mod Instructions
pub mod Ends
