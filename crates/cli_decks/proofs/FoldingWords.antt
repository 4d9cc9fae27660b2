pub mod Bounds
pub mod KeptLines
pub mod Punched
pub mod FoldCalls
