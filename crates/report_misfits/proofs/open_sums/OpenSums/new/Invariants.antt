use Rattle.report_misfits.proofs.Opening.{IsOpened}
use Rattle.report_misfits.proofs.open_sums.OpenSums.new.Given as goal

abbrev pub invariant-loop-line : goal.invariant-loop-line
invariant-loop-line l = IsOpened l.chart.lines l.line-index l.totals.items l.places.items l.amounts.items
