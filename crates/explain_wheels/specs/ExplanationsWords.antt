pub mod PlacedInRun
pub mod Explanations
pub mod Refusals
pub mod Rows
pub mod Says
pub mod Pages
pub mod PageFeeds
pub mod LineFeeds
