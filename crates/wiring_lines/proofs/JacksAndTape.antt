pub mod ChartJacks
pub mod KeptTape
pub mod LineJacks
pub mod OfLines
pub mod TapeLines
pub mod Plugging
pub mod TapeStops
