pub mod Impulses
pub mod Asks
pub mod Reasons
