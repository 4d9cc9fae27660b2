pub mod Growing
pub mod Drawing
pub mod Readable
pub mod Digits
pub mod Columns
pub mod Widths
pub mod Standing
pub mod SheetCalls
