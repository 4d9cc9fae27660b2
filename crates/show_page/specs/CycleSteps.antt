pub mod Live
pub mod Steps
