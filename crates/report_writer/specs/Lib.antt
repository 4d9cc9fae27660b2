pub mod Added
pub mod Laws
pub mod Open
pub mod Outgoing
pub mod Writing
