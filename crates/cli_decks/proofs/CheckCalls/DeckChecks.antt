pub mod Cards
pub mod Lines
pub mod Showing
pub mod Sums
pub mod Steps
pub mod Whole
pub mod Silent
