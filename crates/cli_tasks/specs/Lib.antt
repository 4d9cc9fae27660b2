pub mod Chosen
pub mod Names
pub mod Words
