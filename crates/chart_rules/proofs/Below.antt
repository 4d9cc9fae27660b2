pub use Rattle.chart_line_rules.proofs as chart_line_rules
