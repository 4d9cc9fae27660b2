pub use Rattle.card_code.specs as card_code
pub use Rattle.chart_lines.specs as chart_lines
pub use Rattle.chart_rules.specs as chart_rules
pub use Rattle.chart_rules.specs.Below.chart_line_rules
pub use Rattle.page_text.specs as page_text
