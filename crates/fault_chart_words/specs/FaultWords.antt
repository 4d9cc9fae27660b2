pub mod Parts
pub mod Others
pub mod FormWords
pub mod Words
pub mod Entries
