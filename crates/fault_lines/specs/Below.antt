pub use Rattle.chart_text.specs as chart_text
