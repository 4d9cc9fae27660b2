use Rattle.std.specs.Prelude.{◌≡◌, ◌++◌}
use Rattle.std.specs.List.{flat_map, range_with_len}
use Rattle.std.specs.String.{string_bytes}
use Rattle.show_sums.specs.CardSections.Decks.{entry_text}
use Rattle.show_sums.proofs.card_sections.deck.write_entries.Given as goal

-- the cards so far are written
abbrev pub invariant-loop-passed : goal.invariant-loop-passed
invariant-loop-passed l = string_bytes l.text ≡ string_bytes l.initial.text ++ flat_map entry_text (range_with_len l.first l.passed)
