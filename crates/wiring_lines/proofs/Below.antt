pub use Rattle.wiring_table.proofs as wiring_table
