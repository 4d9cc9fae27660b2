pub mod Drawings
pub mod Holes
pub mod Helper
