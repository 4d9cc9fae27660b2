pub mod Below
pub mod Headline
pub mod Compilation
pub mod Runnable
pub mod ChartFaults
pub mod RunFaults
pub mod Outcomes
pub mod Versions
