pub mod Division
pub mod Fronting
pub mod Refusing
pub mod Stopping
pub mod StoppingWith
