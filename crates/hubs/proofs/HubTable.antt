pub mod KindLemmas
pub mod PlaceLemmas
