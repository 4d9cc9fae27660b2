pub mod CounterGroups
pub mod Enough
pub mod Numbers
pub mod Single
pub mod EachKind
