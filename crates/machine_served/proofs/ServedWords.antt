pub mod SomeUnit
pub mod FirstPass
pub mod Kept
pub mod AtOnce
pub mod Progress
pub mod Counts
pub mod FewRounds
pub mod SomeSteps
