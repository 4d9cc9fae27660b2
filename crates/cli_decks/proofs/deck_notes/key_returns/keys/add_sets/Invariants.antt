use Rattle.std.proofs.Common.{ℕ, ◌-◌, ◌++◌, List, map}
use Rattle.std.specs.List.{range_with_len}
use Rattle.chart_rules.specs.ValidCard.{column_of}
use Rattle.cli_decks.specs.DeckNotes.KeyReturns.Keys.{AreSetsOf}
use Rattle.cli_decks.proofs.deck_notes.key_returns.keys.add_sets.Given as goal

-- the sets of the columns before this one are added
abbrev pub invariant-loop-column : goal.invariant-loop-column
invariant-loop-column l =
    (columns : List ℕ) → AreSetsOf columns l.initial.key.items
    → AreSetsOf (columns ++ map (λ column. column_of l.card column) (range_with_len l.fn.field.first (l.column - l.fn.field.first))) l.key.items
