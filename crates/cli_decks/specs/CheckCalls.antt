pub mod Grouped
pub mod Large
pub mod Laws
pub mod CheckEnds
pub mod Showing
pub mod Telling
pub mod DeckChecks
