pub mod Operands
pub mod Cones
pub mod Picks
pub mod Shapes
pub mod Occurring
