pub mod Helper
pub mod Laws
pub mod Legend
pub mod LineSetups
pub mod Rows
