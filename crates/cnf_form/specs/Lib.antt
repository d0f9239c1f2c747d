pub mod Literals
pub mod Clauses
pub mod Pieces
pub mod Variables
pub mod Valuations
pub mod Propagation
pub mod Refutations
