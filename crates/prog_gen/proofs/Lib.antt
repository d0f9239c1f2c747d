mod Pushed
mod Enlarged
pub mod Programs
