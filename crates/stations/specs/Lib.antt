pub mod Punches
pub mod Stations
pub mod CollectedSets
pub mod Comparing
pub mod Laws
pub mod Kept
pub mod Kinds
pub mod OwnHubs
