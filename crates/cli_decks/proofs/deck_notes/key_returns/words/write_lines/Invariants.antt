use Rattle.std.proofs.Common.{◌≡◌, ◌++◌, take}
use Rattle.std.specs.List.{flat_map}
use Rattle.cli_decks.specs.DeckNotes.KeyReturns.Words.{return_words}
use Rattle.cli_decks.proofs.deck_notes.key_returns.words.write_lines.Given as goal

-- so many lines are written
abbrev pub invariant-loop-each : goal.invariant-loop-each
invariant-loop-each l = l.text.items ≡ l.initial.text.items ++ flat_map (return_words l.chart.lines l.cards) (take l.each-index l.list)
