use Rattle.std.proofs.Common.{take}
use Rattle.std.specs.Prelude.{option_map}
use Rattle.explain_ledgers.specs.LedgersWords.LedgerText.Titles.{words_of}
use Rattle.explain_wheels.specs.RunsWords.{IsBetween}
use Rattle.explain_wheel_ledgers.specs.LedgerHoles.Down.{AreEntriesDown}
use Rattle.explain_wheel_ledgers.proofs.ledger_holes.telling.entries_down.Given as goal

-- the entries so far are told
abbrev pub invariant-loop-entry : goal.invariant-loop-entry
invariant-loop-entry l =
    AreEntriesDown l.setup l.cards (option_map words_of l.fn.title) l.fn.account (take l.entry-index l.entries) l.text.items
    × IsBetween l.setup l.cards l.run
