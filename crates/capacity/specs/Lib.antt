pub mod Capacities
pub mod HelperFields
