pub mod Pieces
pub mod Running
pub mod PartCycles
pub mod PartRuns
pub mod OneTrace
