pub mod Going
pub mod First
