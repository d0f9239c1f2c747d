pub mod Values
pub mod Rules
pub mod Splits
pub mod Working
