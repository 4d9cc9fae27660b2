pub mod ServedWords
pub mod WaitsWords
pub mod ServedUnits
pub mod ServedRuns
