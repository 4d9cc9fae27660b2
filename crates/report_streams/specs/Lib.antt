pub mod DevicesWords
pub mod CardLines
pub mod DecksInRow
