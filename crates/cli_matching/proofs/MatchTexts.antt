pub mod Far
pub mod Lacking
pub mod Numbering
pub mod Whole
