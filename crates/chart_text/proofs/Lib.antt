pub mod Numbers
mod NumberedWords
pub mod LineSteps
pub mod WordGrammar
pub mod FormGrammar
pub mod ChartGrammar
pub mod Answered
pub mod OneReading
pub mod ReadLiterals
