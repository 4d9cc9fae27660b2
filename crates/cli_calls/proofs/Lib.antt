pub mod Listed
pub mod Told
pub mod WholeRuns
pub mod BrowserPages
