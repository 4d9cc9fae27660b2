pub mod HubNames
pub mod Statements
pub mod WiringFaultNumbers
pub mod WiringFaults
pub mod WiringText
pub mod WiringReader
