pub mod TreeLaws
pub mod Terms
pub mod Ranges
pub mod Conditions
pub mod SubsetLaws
pub mod InputLaws
pub mod Numbers
