pub mod Below
pub mod Asked
pub mod Carriage
pub mod Laws
pub mod Moves
pub mod Kinds
pub mod OwnHubs
