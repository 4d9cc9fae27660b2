pub mod HubLemmas
pub mod JackLemmas
pub mod HubTable
pub mod SetupsWords
