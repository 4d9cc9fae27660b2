pub mod Bits
pub mod Bundles
pub mod Contacts
pub mod Joins
pub mod Passing
pub mod Reached
pub mod Rows
pub mod Shorts
