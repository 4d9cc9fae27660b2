pub mod Counts
pub mod ExtraLines
pub mod Forms
pub mod Helper
pub mod Standings
