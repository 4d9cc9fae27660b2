pub mod Showing
pub mod Stopping
