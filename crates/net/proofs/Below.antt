pub use Rattle.machine_sets.proofs as machine_sets
