pub mod Asking
pub mod Legends
