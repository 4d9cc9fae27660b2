pub mod Sections
pub mod ToldWheels
pub mod Helper
pub mod Words
