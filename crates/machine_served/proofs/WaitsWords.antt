pub mod Joined
pub mod Below
pub mod Readers
pub mod AllWaits
pub mod Words
