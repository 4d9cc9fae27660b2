pub mod Fronts
pub mod Listed
pub mod Rising
