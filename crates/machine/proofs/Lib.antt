pub mod Below
pub mod Keeps
pub mod Work
pub mod FeedSteps
pub mod FewCycles
pub mod OneOutcome
pub mod Order
pub mod SameSetups
pub mod SomeOutcome
pub mod ClosedContacts
pub mod FeedsInRuns
pub mod RunsInFeeds
mod CardCycles
mod Decks
mod Exits
mod Moving
mod Parts
mod Going
mod KeptFeeds
mod KeptLatches
mod KeptPages
mod KeptPoints
pub mod Pictures
mod Points
mod Rest
mod StraightRows
mod EmittingRows
mod CarryExits
mod Marks
pub mod UnitOrder
pub mod AllRows
pub mod RestingRows
mod ControlPoint
