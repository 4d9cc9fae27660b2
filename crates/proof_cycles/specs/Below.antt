pub use Rattle.card_code.specs as card_code
pub use Rattle.counters.specs as counters
pub use Rattle.hubs.specs as hubs
pub use Rattle.machine.specs as machine
pub use Rattle.machine.specs.Below.selectors
pub use Rattle.machine.specs.Below.stations
pub use Rattle.machine.specs.Below.storage_units
pub use Rattle.net.specs as net
