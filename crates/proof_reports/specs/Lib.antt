pub mod Below
pub mod PrintedLines
pub mod WiredPanels
pub mod PrintedReports
