pub mod InOrder
pub mod Lines
