pub mod Found
pub mod Framed
pub mod Taken
pub mod Wanted
pub mod FoundSums
