pub mod Answered
pub mod Members
pub mod Order
pub mod Exact
pub mod Steps
pub mod FaultWords
