pub use Rattle.carriage.specs as carriage
pub use Rattle.counters.specs as counters
pub use Rattle.page_text.specs as page_text
pub use Rattle.print_unit.specs as print_unit
pub use Rattle.program_unit.specs as program_unit
pub use Rattle.selectors.specs as selectors
pub use Rattle.stations.specs as stations
pub use Rattle.storage_units.specs as storage_units
