pub use Rattle.proof_cycles.specs.Below.card_code
pub use Rattle.proof_cycles.specs.Below.counters
pub use Rattle.proof_cycles.specs.Below.machine
pub use Rattle.proof_cycles.specs.Below.net
pub use Rattle.proof_cycles.specs.Below.selectors
pub use Rattle.proof_cycles.specs.Below.stations
pub use Rattle.proof_cycles.specs.Below.storage_units
pub use Rattle.wiring_table.specs as wiring_table
pub use Rattle.wiring_table.specs.Below.capacity
pub use Rattle.wiring_table.specs.Below.chart_line_rules
pub use Rattle.wiring_table.specs.Below.chart_lines
pub use Rattle.wiring_table.specs.Below.chart_plans
pub use Rattle.wiring_table.specs.Below.chart_rules
pub use Rattle.wiring_table.specs.Below.hubs
