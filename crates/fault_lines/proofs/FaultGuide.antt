pub mod Spelled
pub mod Told
