pub mod BitSets
pub mod SpreadsWords
