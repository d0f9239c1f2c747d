pub mod Prints
pub mod Filtering
pub mod Serving
