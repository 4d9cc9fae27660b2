pub mod Differences
pub mod Helper
pub mod HelperSizes
pub mod PanelProgress
