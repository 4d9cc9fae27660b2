pub mod Amounts
pub mod Names
pub mod Entries
pub mod Tellings
pub mod Titles
