pub use Rattle.chart_plans.specs as chart_plans
pub use Rattle.chart_plans.specs.Below.capacity
pub use Rattle.chart_plans.specs.Below.chart_lines
pub use Rattle.chart_plans.specs.Below.chart_rules
pub use Rattle.hubs.specs as hubs
pub use Rattle.report_definition.specs as report_definition
pub use Rattle.report_definition.specs.Below.chart_line_rules
