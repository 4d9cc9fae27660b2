pub mod PageLaws
pub mod Passing
pub mod Printing
