pub use Rattle.wiring_table.specs as wiring_table
