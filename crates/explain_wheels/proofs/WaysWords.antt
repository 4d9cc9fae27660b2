pub mod Layers
pub mod LeadsLemmas
pub mod Passes
pub mod WayLemmas
pub mod Fills
