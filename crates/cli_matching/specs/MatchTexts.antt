pub mod Counts
pub mod ExtraNumbers
pub mod Helper
pub mod MatchText
pub mod Missing
pub mod PlanText
pub mod Progress
