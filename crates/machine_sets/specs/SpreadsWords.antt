pub mod Blocks
pub mod Links
pub mod Passing
pub mod Paths
