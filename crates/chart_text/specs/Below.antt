pub use Rattle.chart_lines.specs as chart_lines
