use Rattle.std.proofs.Common.{ℕ, ◌<◌}
use Rattle.wiring_lines.specs.Below.wiring_table.Parts.{HasTotal}
use Rattle.wiring_totals.proofs.transfer.is_lowest.Given as goal

abbrev pub invariant-loop-lower : goal.invariant-loop-lower
invariant-loop-lower l =
    (level number : ℕ) → level < l.lower → ¬ HasTotal l.chart.lines l.name level number
