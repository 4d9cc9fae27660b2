pub mod Helper
pub mod Rows
pub mod Sections
