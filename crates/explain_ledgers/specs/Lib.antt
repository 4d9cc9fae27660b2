pub mod LedgersWords
pub mod CycleWays
