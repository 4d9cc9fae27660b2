use Rattle.std.proofs.Common.{◌≡◌, ℕ, ◌<◌, ◌≤◌}
use Rattle.chart_rules.specs.ValidCard.{column_of, digit_count}
use Rattle.chart_rules.proofs.card.are_single.Given as goal

abbrev pub invariant-loop-column : goal.invariant-loop-column
invariant-loop-column l = (column : ℕ) → column < l.column → l.first ≤ column → digit_count (column_of l.card column) ≡ 1
