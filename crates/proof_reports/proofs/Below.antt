pub use Rattle.proof_cycles.proofs.Below.machine
pub use Rattle.wiring_table.proofs.Below.chart_line_rules
pub use Rattle.wiring_table.proofs.Below.chart_lines
pub use Rattle.wiring_table.proofs.Below.chart_rules
pub use Rattle.wiring_table.proofs.Below.hubs
