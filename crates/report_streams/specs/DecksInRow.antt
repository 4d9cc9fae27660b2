pub mod InRow
pub mod Laws
pub mod Rows
