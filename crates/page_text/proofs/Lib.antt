pub mod CutTexts
pub mod Parts
pub mod Walks
