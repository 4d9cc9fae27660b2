pub mod Differing
pub mod Wheels
