pub mod Helper
pub mod Shown
