pub mod Units
pub mod Cycles
pub mod Waits
pub mod Steps
pub mod Rounds
pub mod Orders
pub mod Laws
