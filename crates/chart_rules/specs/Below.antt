pub use Rattle.chart_line_rules.specs as chart_line_rules
