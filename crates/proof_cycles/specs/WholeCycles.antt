pub mod WholeCycles
pub mod Between
pub mod Carries
pub mod OneContactDeep
pub mod Rings
pub mod RingRuns
pub mod Units
pub mod Laws
