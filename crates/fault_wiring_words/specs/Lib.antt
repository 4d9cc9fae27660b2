pub mod HubWords
pub mod Forms
pub mod Lines
pub mod Unfit
pub mod Entries
