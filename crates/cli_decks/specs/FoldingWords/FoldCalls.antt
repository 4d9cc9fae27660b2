pub mod LongCards
pub mod FoldEnds
