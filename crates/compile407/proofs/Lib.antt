pub mod BlankDecks
pub mod CapacityTold
pub mod Exclusions
pub mod Headline
pub mod OneFault
pub mod Promised
pub mod Untold
pub mod Versions
