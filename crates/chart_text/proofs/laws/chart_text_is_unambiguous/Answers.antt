use Rattle.chart_text.proofs.ChartGrammar.{one_chart, no_chart, one_fault}
use Rattle.chart_text.proofs.laws.chart_text_is_unambiguous.Goals as goal

pub returns : goal.returns
returns c = record { one_chart = one_chart; no_chart = no_chart; one_fault = one_fault }
