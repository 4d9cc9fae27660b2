use Rattle.std.proofs.Common.{◌≡◌, ◌++◌, drop, flat_map}
use Rattle.chart_lines.specs.declared.charts.chart.Line.{Line}
use Rattle.match_plans.specs.WheelParts.{indicated_wheels, wheels_on}
use Rattle.match_plans.proofs.wheel_parts.indicated_wheels.Given as goal

abbrev pub invariant-loop-line : goal.invariant-loop-line
invariant-loop-line l =
    l.wheels.items ++ flat_map (λ (line : Line). wheels_on l.chart.lines l.level line.statement) (drop l.line-index l.line-items)
    ≡ indicated_wheels l.chart.lines l.level
