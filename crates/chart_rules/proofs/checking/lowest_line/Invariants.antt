use Rattle.chart_rules.proofs.Lowest.{PassesBefore}
use Rattle.chart_rules.proofs.checking.lowest_line.Given as goal

abbrev pub invariant-loop-place : goal.invariant-loop-place
invariant-loop-place l = PassesBefore l.rule l.raw l.place
