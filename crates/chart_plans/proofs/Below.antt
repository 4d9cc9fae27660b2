pub use Rattle.chart_lines.proofs as chart_lines
pub use Rattle.chart_rules.proofs as chart_rules
