pub mod Asked
pub mod Clashes
mod Rows
mod Shown
pub mod Inverse
pub mod Wheels
mod Unique
mod Whole
mod Found
mod TooNarrow
mod Steps
mod Zipped
mod Alike
mod Apart
mod Texts
mod Planned
mod Told
mod Exchange
mod Rewired
mod Comparing
mod Lowest
mod OwnNames
mod PilotsTold
mod WheelParts
