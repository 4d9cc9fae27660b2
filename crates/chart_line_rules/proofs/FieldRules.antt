pub mod DigitsKept
pub mod Places
