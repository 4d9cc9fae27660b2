pub mod Placing
pub mod CarriageCycles
pub mod FormFacts
pub mod Laws
