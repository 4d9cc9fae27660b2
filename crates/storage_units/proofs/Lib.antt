pub mod CycleLemmas
pub mod StorageLemmas
pub mod WordLemmas
pub mod ColumnSets
pub mod AllRows
mod ControlHubs
