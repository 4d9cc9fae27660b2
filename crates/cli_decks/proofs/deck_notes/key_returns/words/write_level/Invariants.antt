use Rattle.std.proofs.Common.{◌≡◌, ◌++◌, take}
use Rattle.std.specs.List.{flat_map}
use Rattle.chart_lines.specs.ChartsWords.Levels.{control_number}
use Rattle.chart_rules.specs.Controls.{controls_of}
use Rattle.cli_decks.specs.DeckNotes.KeyReturns.Words.{field_words}
use Rattle.cli_decks.proofs.deck_notes.key_returns.words.write_level.Given as goal

-- so many fields are written
abbrev pub invariant-loop-field : goal.invariant-loop-field
invariant-loop-field l =
    l.text.items
    ≡ l.initial.text.items ++ flat_map (field_words l.card) (take l.field-index (controls_of l.chart.lines (control_number l.fn.level)))
