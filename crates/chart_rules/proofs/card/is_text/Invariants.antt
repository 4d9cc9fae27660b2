use Rattle.std.proofs.Common.{◌≡◌, ℕ, ◌<◌, ◌≤◌, true}
use Rattle.card_code.specs.CardCode.{deck_character}
use Rattle.chart_rules.specs.ValidCard.{column_of, is_printed}
use Rattle.chart_rules.proofs.card.is_text.Given as goal

abbrev pub invariant-loop-column : goal.invariant-loop-column
invariant-loop-column l =
    (column : ℕ) → column < l.column → l.first ≤ column → is_printed (deck_character (column_of l.card column)) ≡ true
