pub mod Arithmetic
pub mod Memory
pub mod Machine
pub mod Runs
