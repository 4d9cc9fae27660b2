pub mod ExplanationText
pub mod TracesWords
