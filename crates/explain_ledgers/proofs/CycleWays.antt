pub mod Points
pub mod Named
pub mod Controls
pub mod Digits
