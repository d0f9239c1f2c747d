pub mod Clauses
pub mod Faulted
pub mod Lines
pub mod Noting
pub mod Passing
pub mod Refuting
pub mod Spending
pub mod Taken
