pub mod Keeping
pub mod Storing
pub mod Printing
pub mod Texts
mod Leaving
pub mod Standing
mod Carriage
