pub mod Rulers
pub mod Layout
pub mod Fields
pub mod Helper
pub mod Laws
pub mod Marks
pub mod SheetCalls
