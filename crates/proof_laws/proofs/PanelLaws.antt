pub mod DigitWheels
pub mod HubRanges
pub mod TextsRead
pub mod ToWheels
