pub mod Gains
pub mod Words
