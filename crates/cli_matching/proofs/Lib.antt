mod Answering
mod Finding
mod Pairs
pub mod Refusing
mod Telling
mod TellingOver
mod Written
pub mod MatchReports
pub mod MatchDecks
pub mod MatchTexts
pub mod ChartCalls
