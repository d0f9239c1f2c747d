mod Listed
mod BytesBack
mod ItemsBack
mod LinesBack
mod LinesFrom
mod Walking
mod Whole
