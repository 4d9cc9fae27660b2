pub mod Positions
pub mod Ways
pub mod Controls
pub mod Digits
pub mod Down
pub mod Feeding
