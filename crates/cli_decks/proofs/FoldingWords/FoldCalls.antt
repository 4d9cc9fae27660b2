pub mod LongLines
pub mod Refusing
