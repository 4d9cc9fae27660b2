use Rattle.wiring_table.specs.Below.report_definition.ChartForm.{form_of}
use Rattle.std.proofs.Common.{drop, ◌≡◌}
use Rattle.wiring_lines.proofs.jacks_and_tape.chart_tape.form_of.Given as goal

abbrev pub invariant-loop-line : goal.invariant-loop-line
invariant-loop-line l = form_of (drop l.line-index l.lines) ≡ form_of l.lines
