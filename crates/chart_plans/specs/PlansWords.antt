pub mod Assignments
pub mod Counters
pub mod Excess
pub mod PartNumbers
pub mod Renumbered
pub mod Plans
pub mod HelperEnough
