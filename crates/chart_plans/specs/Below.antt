pub use Rattle.capacity.specs as capacity
pub use Rattle.chart_lines.specs as chart_lines
pub use Rattle.chart_rules.specs as chart_rules
