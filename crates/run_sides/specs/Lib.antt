pub mod Narrowing
pub mod Sides
