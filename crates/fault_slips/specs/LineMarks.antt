pub mod Spans
pub mod Marks
pub mod Emptied
pub mod Entries
pub mod FirstLines
