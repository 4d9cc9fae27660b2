pub mod CarryWires
pub mod Fields
pub mod Rows
pub mod SetupFaults
pub mod Tapes
pub mod Wires
pub mod Wiring
