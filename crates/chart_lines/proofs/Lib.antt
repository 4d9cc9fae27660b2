pub mod TokensWords
pub mod ChartsWords
