pub mod Below
pub mod Laws
pub mod Parts
pub mod Writing
pub mod WrittenText
