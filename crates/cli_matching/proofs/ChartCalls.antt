pub mod Finding
pub mod Refusing
pub mod Telling
