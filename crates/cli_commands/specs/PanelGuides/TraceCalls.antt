pub mod TraceEnds
pub mod Traced
