pub mod Lines
pub mod Numbered
pub mod GuideTexts
