pub mod Changes
pub mod Folded
pub mod Laws
pub mod Punchable
pub mod ToldChanges
pub mod FoldCalls
