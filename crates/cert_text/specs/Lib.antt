pub mod Lines
pub mod Texts
pub mod Legible
pub mod LineReading
pub mod Refusals
pub mod Parts
