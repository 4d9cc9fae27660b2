pub mod HelperKnown
pub mod HelperLines
pub mod OfLine
