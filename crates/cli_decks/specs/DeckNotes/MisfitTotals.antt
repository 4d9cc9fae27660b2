pub mod Large
pub mod HelperGood
pub mod HelperStarts
