use Rattle.std.proofs.Common.{◌≡◌, ◌++◌, take}
use Rattle.std.specs.List.{flat_map}
use Rattle.cli_decks.specs.DeckNotes.MisfitTotals.Large.{large_on}
use Rattle.cli_decks.proofs.deck_notes.misfit_totals.words.write_in.Given as goal

-- so many lines are done
abbrev pub invariant-loop-line : goal.invariant-loop-line
invariant-loop-line l =
    l.text.items
    ≡ l.initial.text.items ++ flat_map (λ line. large_on l.chart.lines l.level l.number l.group line.statement) (take l.line-index l.chart.lines)
