pub mod Below
pub mod LineWires
pub mod JacksAndTape
