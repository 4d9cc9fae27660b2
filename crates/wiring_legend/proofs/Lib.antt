mod Groups
mod LineSetupLemmas
mod Numbered
mod Whole
