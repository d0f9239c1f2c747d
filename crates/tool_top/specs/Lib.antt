pub mod Reports
pub mod Lines
pub mod Replaying
pub mod Auditing
pub mod Upgrading
pub mod Plan
pub mod ReadBack
pub mod Answer
