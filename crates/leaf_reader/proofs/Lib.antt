pub mod CursorSteps
pub mod ItemsFrom
pub mod ItemLoops
pub mod NextLines
pub mod LinesFrom
pub mod Loop
pub mod TermsSmall
