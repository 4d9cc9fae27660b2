pub mod Counted
pub mod Telling
