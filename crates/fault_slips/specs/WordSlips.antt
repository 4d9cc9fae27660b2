pub mod Words
pub mod Stages
pub mod Phrases
pub mod Halts
pub mod Entries
