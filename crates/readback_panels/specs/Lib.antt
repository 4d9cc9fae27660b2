pub mod Chains
pub mod Items
pub mod Lines
pub mod Lowest
pub mod Names
pub mod Reads
pub mod Shown
pub mod Zones
