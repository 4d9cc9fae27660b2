mod Ends
mod Lefts
mod Reading
mod Rests
pub mod MisreadLines
pub mod CapacityFaults
pub mod FormStages
pub mod MarkedWords
pub mod TextLists
