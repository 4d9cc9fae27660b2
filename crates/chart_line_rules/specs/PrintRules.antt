pub mod Items
pub mod Marks
pub mod Wheels
pub mod Printing
pub mod Forms
pub mod Tapes
pub mod HelperItems
