pub mod Punched
pub mod Written
