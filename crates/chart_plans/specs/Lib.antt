pub mod Below
pub mod WantedWords
pub mod PlansWords
