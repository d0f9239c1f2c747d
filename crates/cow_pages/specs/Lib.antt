pub mod SymbolicMemory
pub mod Contents
pub mod Groups
pub mod Unwritten
