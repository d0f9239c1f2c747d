pub mod Ends
pub mod NodeText
pub mod Lines
pub mod LeafLines
pub mod NodeFits
pub mod Grammar
pub mod LineReading
pub mod Phases
