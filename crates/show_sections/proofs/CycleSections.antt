pub mod Bytes
pub mod Cycles
