pub mod Below
pub mod Counts
pub mod LineMarks
pub mod LineSlips
pub mod WordSlips
