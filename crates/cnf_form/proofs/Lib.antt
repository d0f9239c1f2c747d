pub mod Soundness
pub mod Inserting
pub mod Meaning
pub mod Pieces
pub mod Variables
pub mod Occurs
pub mod Rising
