pub mod Shown
pub mod Held
pub mod Laws
