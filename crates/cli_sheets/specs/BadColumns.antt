pub mod Columns
pub mod Words
pub mod Laws
