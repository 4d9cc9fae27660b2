pub mod Slips
pub mod Forms
pub mod LineEntries
pub mod Near
