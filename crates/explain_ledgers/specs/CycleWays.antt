pub mod Points
pub mod ToldImpulses
