pub mod Below
pub mod FaultsWords
pub mod ProgramIo
pub mod FaultGuide
