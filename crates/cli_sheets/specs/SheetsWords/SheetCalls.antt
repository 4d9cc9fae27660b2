pub mod CardSheets
pub mod Charts
pub mod Layouts
