use Rattle.chart_lines.specs.ChartsWords.Levels.{level_number}
use Rattle.std.proofs.Common.{ℕ, ◌<◌}
use Rattle.wiring_lines.specs.Below.wiring_table.Parts.{HasTotal}
use Rattle.wiring_totals.proofs.transfer.next_higher.Given as goal

abbrev pub invariant-loop-higher : goal.invariant-loop-higher
invariant-loop-higher l =
    (level number : ℕ) → level_number l.fn.level < level → level < l.higher → ¬ HasTotal l.chart.lines l.name level number
