pub mod Tables
pub mod Ways
pub mod Passed
