use Rattle.std.proofs.Common.{◌≡◌, ◌++◌, drop, flat_map}
use Rattle.chart_lines.specs.declared.charts.chart.Line.{Line}
use Rattle.match_plans.specs.ComparedColumns.{columns_on, compared_columns}
use Rattle.match_plans.proofs.compared.compared_columns.Given as goal

abbrev pub invariant-loop-line : goal.invariant-loop-line
invariant-loop-line l =
    l.columns.items ++ flat_map (λ (line : Line). columns_on l.chart.lines line.statement) (drop l.line-index l.line-items)
    ≡ compared_columns l.chart.lines
