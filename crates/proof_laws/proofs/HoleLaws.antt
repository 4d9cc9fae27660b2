pub mod Impulses
pub mod Asks
pub mod Brushes
pub mod Differences
pub mod Cards
pub mod Reasons
