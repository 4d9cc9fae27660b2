pub mod HelperJacks
pub mod OfLine
pub mod OfLines
