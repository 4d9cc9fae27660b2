pub mod Ledgers
pub mod Explained
pub mod Tellings
pub mod LedgerEnds
