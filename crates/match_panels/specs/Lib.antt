pub mod DifferencesWords
pub mod MatchingWords
