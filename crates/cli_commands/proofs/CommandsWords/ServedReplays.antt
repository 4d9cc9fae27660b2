pub mod Refusing
pub mod Printing
