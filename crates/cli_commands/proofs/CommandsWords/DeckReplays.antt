pub mod Ending
pub mod InText
pub mod Standing
pub mod Upcoming
