pub mod Answers
pub mod Laws
pub mod Refusals
pub mod CommandEnds
pub mod Streamed
pub mod ServedReplays
pub mod UnitOrders
pub mod DeckReplays
