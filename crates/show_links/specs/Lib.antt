pub mod Links
pub mod SumPlaces
