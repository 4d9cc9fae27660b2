pub mod HelperFeeding
pub mod HelperStanding
pub mod Replays
