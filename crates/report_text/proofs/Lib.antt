mod SixDigits
pub mod Counting
mod ReportTexts
mod SampleWords
pub mod Ranked
mod EventTexts
pub mod Claimed
pub mod Entering
pub mod Ordering
pub mod FileList
pub mod EventsBack
pub mod SpentBack
pub mod LearntBack
pub mod WalkedLines
pub mod ClaimsLegible
