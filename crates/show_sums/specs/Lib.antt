pub mod SumSections
pub mod CardSections
