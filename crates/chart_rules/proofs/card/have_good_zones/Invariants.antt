use Rattle.std.proofs.Common.{◌≡◌, ℕ, ◌<◌, ◌≤◌, true}
use Rattle.chart_rules.specs.ValidCard.{column_of, has_good_zone}
use Rattle.chart_rules.proofs.card.have_good_zones.Given as goal

abbrev pub invariant-loop-column : goal.invariant-loop-column
invariant-loop-column l =
    (column : ℕ) → column < l.column → l.first ≤ column → has_good_zone l.sign column (column_of l.card column) ≡ true
