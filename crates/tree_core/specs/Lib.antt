pub mod Choices
pub mod Orders
pub mod WorkedOrders
pub mod Nodes
pub mod Stories
pub mod Covers
pub mod Replays
pub mod Cores
