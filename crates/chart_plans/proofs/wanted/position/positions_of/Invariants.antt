use Rattle.std.proofs.Common.{◌≡◌, flat_map, take}
use Rattle.chart_plans.specs.WantedWords.Positions.{field_used, positions_for}
use Rattle.chart_plans.proofs.wanted.position.positions_of.Given as goal

abbrev pub invariant-loop-line : goal.invariant-loop-line
invariant-loop-line l = l.list.items ≡ flat_map (λ line. positions_for line.number (field_used l.chart.lines l.columns line.statement)) (take l.line-index l.chart.lines)
