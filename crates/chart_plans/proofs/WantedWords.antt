pub mod Columns
pub mod Needs
pub mod Reading
pub mod WideTexts
