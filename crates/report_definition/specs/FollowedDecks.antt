pub mod CardMisfits
pub mod FitBefore
pub mod FitSoFar
pub mod Alike
pub mod Left
pub mod Stands
pub mod Runner
pub mod Laws
