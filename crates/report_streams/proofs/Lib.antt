pub mod CardLines
pub mod DecksInRow
