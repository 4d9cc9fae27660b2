pub mod Slips
pub mod Rows
pub mod Amounts
pub mod Fields
