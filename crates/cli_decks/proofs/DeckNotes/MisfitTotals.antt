pub mod Good
pub mod Grouped
pub mod Pieces
pub mod Summed
