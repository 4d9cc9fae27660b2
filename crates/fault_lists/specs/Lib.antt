pub mod TextEntries
pub mod MarkedWords
pub mod CapacityEntries
pub mod Behind
pub mod Endings
pub mod MisreadLines
pub mod CapacityFaults
pub mod TextLists
