pub mod CommandsWords
pub mod PanelGuides
