pub mod AnyUnit
pub mod Runs
pub mod Laws
