pub mod ListsBack
pub mod SidesBack
pub mod FoundBack
pub mod ClauseBack
