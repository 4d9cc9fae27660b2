pub mod HelperControls
pub mod HelperCounters
pub mod HelperTotalRows
pub mod HelperLevels
pub mod HelperTotals
