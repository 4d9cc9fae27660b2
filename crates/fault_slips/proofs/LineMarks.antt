pub mod Passing
pub mod Spans
pub mod Steps
pub mod Copying
pub mod FirstLines
