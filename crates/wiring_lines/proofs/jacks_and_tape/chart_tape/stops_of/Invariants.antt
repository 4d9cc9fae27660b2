use Rattle.wiring_table.specs.Below.report_definition.ChartForm.{stops_of}
use Rattle.std.proofs.Common.{drop, ◌≡◌}
use Rattle.wiring_lines.proofs.jacks_and_tape.chart_tape.stops_of.Given as goal

abbrev pub invariant-loop-line : goal.invariant-loop-line
invariant-loop-line l = stops_of (drop l.line-index l.lines) l.wanted ≡ stops_of l.lines l.wanted
