pub mod Asked
pub mod ShowEnds
pub mod Shown
