pub mod ReportSheets
pub mod ChartPanels
pub mod CycleSections
pub mod WheelSections
pub mod WireSections
