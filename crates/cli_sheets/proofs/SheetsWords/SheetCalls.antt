pub mod Going
pub mod Reading
pub mod Sheets
pub mod Stopping
