pub use Rattle.report_definition.proofs as report_definition
