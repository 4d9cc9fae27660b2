pub mod Feeding
mod FirstCauses
mod Ending
mod LastCards
mod NextCards
mod OneCause
mod OneLine
mod Standing
mod Steps
pub mod Streams
mod Written
