pub mod HubWords
pub mod LineSlips
pub mod Meetings
pub mod CarrySlips
pub mod Faulty
