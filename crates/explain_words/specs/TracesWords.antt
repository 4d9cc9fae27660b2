pub mod TracedUnits
pub mod Lines
pub mod Traces
pub mod Tracing
pub mod Parts
pub mod Listing
pub mod OneTrace
