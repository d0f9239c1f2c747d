pub mod ByteLists
pub mod Walking
