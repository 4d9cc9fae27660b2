pub use Rattle.print_unit.proofs as print_unit
pub use Rattle.selectors.proofs as selectors
pub use Rattle.stations.proofs as stations
pub use Rattle.storage_units.proofs as storage_units
