pub mod ChartCauses
pub mod FaultNumbers
pub mod Lines
pub mod Status
pub mod ToldFaults
