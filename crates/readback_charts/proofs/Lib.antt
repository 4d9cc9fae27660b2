mod Beside
mod MatchedCharts
mod Smallest
pub mod PanelSlips
