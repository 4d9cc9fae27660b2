use Rattle.std.proofs.Common.{◌≡◌, drop}
use Rattle.chart_line_rules.specs.PrintRules.Tapes.{form_lines}
use Rattle.chart_line_rules.proofs.print_rules.tapes.form_lines.Given as goal

abbrev pub invariant-loop-line : goal.invariant-loop-line
invariant-loop-line l = form_lines (drop l.line-index l.chart) ≡ form_lines l.chart
