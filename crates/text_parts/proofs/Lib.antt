pub mod Options
pub mod DigitsBack
pub mod Words
pub mod ItemsBack
pub mod Joined
pub mod Made
pub mod Tests
