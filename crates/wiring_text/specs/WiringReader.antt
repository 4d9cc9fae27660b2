pub mod Reading
pub mod TextReading
