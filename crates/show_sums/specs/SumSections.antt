pub mod Sums
pub mod WantedSums
pub mod Targets
pub mod Labels
pub mod Rows
pub mod Into
pub mod Between
pub mod Sections
