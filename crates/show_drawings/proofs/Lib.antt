pub mod MarkupWords
pub mod DrawingsWords
