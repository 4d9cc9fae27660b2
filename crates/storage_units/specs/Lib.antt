pub mod Fields
pub mod Storage
pub mod WholeCycles
pub mod Words
pub mod Kinds
pub mod OwnHubs
