pub mod ReadingState
pub mod Refusals
