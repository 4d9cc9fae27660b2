use Rattle.chart_rules.specs.HelperAmounts.{AreAmountsMarked}
use Rattle.chart_rules.proofs.amounts.AmountColumns.of.Given as goal

abbrev pub invariant-loop-field : goal.invariant-loop-field
invariant-loop-field l = AreAmountsMarked l.fields l.field-index l.columns
