pub mod Decks
pub mod Fields
pub mod Readings
pub mod Sections
