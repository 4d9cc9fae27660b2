pub mod RowSets
pub mod Steps
