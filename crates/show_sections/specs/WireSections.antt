pub mod Held
pub mod Passing
pub mod Sections
pub mod Helper
