pub mod AllSets
pub mod CardCode
pub mod Columns
pub mod Deck
pub mod Lines
pub mod MostCards
pub mod Rows
pub mod Tables
