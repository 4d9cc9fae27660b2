pub mod Carries
pub mod HelperKeys
pub mod HubText
pub mod Hubs
pub mod Jacks
pub mod HubTable
pub mod SetupsWords
