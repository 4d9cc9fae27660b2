pub mod Commands
pub mod Fronts
pub mod Input
pub mod Printable
pub mod Refusals
pub mod Stops
