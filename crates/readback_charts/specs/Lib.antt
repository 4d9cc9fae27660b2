pub mod PanelChart
pub mod KnownCharts
pub mod PanelSlips
