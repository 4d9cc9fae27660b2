pub mod Accounts
mod Behind
mod Lists
mod Asked
mod Down
pub mod LedgerHoles
mod Wires
