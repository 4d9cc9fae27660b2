pub mod Groups
pub mod Exceeded
pub mod Allocated
pub mod Laws
pub mod HelperCounters
pub mod HelperTaking
