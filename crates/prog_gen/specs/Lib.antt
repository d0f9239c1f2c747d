pub mod Words
pub mod Generated
