pub mod AnyUnitKeeps
pub mod Listed
pub mod SameUnits
pub mod ServedRuns
