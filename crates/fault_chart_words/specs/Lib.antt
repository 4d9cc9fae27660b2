pub mod Listed
pub mod HelperLists
pub mod FaultWords
