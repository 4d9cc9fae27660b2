pub mod Ends
pub mod Does
pub mod WholeRuns
pub mod BrowserPages
