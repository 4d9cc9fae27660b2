pub mod KeptLines
pub mod Reading
