pub mod Trees
pub mod TreeInputs
pub mod TreeSlices
pub mod Subsets
pub mod Growth
