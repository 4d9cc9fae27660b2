pub mod HelperRows
pub mod HubTable
pub mod Places
pub mod Ranges
