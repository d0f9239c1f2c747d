pub mod Sides
pub mod FoundLine
pub mod LearntLine
pub mod Legible
pub mod LineReading
