pub use Rattle.chart_text.proofs as chart_text
