pub mod WaysWords
pub mod ExplanationsWords
pub mod RunsWords
