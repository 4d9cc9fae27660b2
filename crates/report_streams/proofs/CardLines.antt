pub mod Numbers
pub mod Blocks
pub mod Cuts
pub mod FirstLines
pub mod Next
pub mod Filling
pub mod LineFeeds
