use Rattle.std.proofs.Common.{◌≡◌, take}
use Rattle.chart_lines.specs.ChartsWords.Levels.{control_number}
use Rattle.chart_rules.specs.Controls.{controls_among}
use Rattle.chart_rules.proofs.controls.controls_at.Given as goal

abbrev pub invariant-loop-line : goal.invariant-loop-line
invariant-loop-line l = l.found.items ≡ controls_among l.lines (control_number l.level) (take l.line-index l.lines)
