pub mod Blocks
pub mod Drawing
pub mod Helper
