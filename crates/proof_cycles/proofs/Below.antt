pub use Rattle.counters.proofs as counters
pub use Rattle.hubs.proofs as hubs
pub use Rattle.machine.proofs as machine
pub use Rattle.machine.proofs.Below.selectors
pub use Rattle.machine.proofs.Below.storage_units
pub use Rattle.net.proofs as net
