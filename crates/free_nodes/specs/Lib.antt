pub mod Sums
pub mod Entries
pub mod Listings
pub mod Named
