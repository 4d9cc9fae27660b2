pub mod Asking
pub mod Digits
pub mod Gains
pub mod NoNotes
pub mod OnlyWays
pub mod Places
pub mod Rows
pub mod ReadOuts
