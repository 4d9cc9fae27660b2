pub mod PageLaws
pub mod Pages
pub mod Whole
