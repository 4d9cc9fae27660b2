pub use Rattle.chart_plans.proofs as chart_plans
pub use Rattle.chart_plans.proofs.Below.chart_lines
pub use Rattle.chart_plans.proofs.Below.chart_rules
pub use Rattle.hubs.proofs as hubs
pub use Rattle.report_definition.proofs as report_definition
pub use Rattle.report_definition.proofs.Below.chart_line_rules
