pub mod Names
pub mod Digits
pub mod Pieces
pub mod Items
