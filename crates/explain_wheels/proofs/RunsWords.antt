pub mod Places
pub mod DeckRuns
