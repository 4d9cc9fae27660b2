pub mod Units
pub mod Contacts
pub mod Course
pub mod Seen
pub mod Runs
