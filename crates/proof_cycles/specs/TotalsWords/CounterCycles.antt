pub mod Acts
pub mod Digits
pub mod Laws
pub mod Pairs
