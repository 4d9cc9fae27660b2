pub mod Below
pub mod ChartLines
pub mod Groups
pub mod Parts
pub mod Totals
