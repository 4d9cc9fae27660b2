pub mod Below
pub mod TokensWords
pub mod ChartsWords
