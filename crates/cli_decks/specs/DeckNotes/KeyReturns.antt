pub mod Keys
pub mod Returns
pub mod HelperKept
pub mod Words
