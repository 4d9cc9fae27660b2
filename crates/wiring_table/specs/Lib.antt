pub mod Below
pub mod Figures
pub mod Parts
pub mod Wires
pub mod Jacks
pub mod WiredFor
