pub mod Pages
pub mod HartStates
pub mod Steps
pub mod Progress
pub mod Ends
