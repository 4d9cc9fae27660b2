pub mod Program
pub mod CycleOrder
pub mod Laws
pub mod Kinds
pub mod OwnHubs
