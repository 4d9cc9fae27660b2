pub mod Kept
pub mod Levels
pub mod SameKeys
pub mod Walked
