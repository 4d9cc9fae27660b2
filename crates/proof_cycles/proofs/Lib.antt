pub mod Below
pub mod WholeCycles
pub mod TotalsWords
