pub mod DeckNotes
pub mod CheckCalls
pub mod FoldingWords
