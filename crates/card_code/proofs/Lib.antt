pub mod Characters
pub mod Columns
pub mod Decks
pub mod Faults
pub mod OneToOne
pub mod Pieces
pub mod Punches
pub mod Tables
