pub mod Amounts
pub mod Sums
pub mod Standing
pub mod Laws
pub mod Examples
pub mod CounterCycles
