pub mod Answers
pub mod Counted
pub mod Laws
pub mod Refusals
pub mod OrderedEnds
