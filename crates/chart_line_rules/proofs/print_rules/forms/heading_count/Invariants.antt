use Rattle.std.proofs.Common.{◌≡◌, ◌≤◌, max, drop}
use Rattle.chart_line_rules.specs.PrintRules.Forms.{heading_count}
use Rattle.chart_line_rules.proofs.print_rules.forms.heading_count.Given as goal

abbrev pub invariant-loop-line : goal.invariant-loop-line
invariant-loop-line l =
    (max l.highest (heading_count (drop l.line-index l.lines)) ≡ heading_count l.lines) × (l.highest ≤ 3)
